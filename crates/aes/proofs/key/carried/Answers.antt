use Rattle.std.proofs.Common.{rules}
use Rattle.aes.specs.Words.{temp, rcon}
use Rattle.aes.proofs.key.carried.Goals as goal

pub returns-then-i-eq0 : goal.returns-then-i-eq0
unfolding temp rcon
returns-then-i-eq0 c = search rules

pub returns-then-i-eq4 : goal.returns-then-i-eq4
unfolding temp
returns-then-i-eq4 c = search rules

pub returns-else-i-eq4 : goal.returns-else-i-eq4
unfolding temp
returns-else-i-eq4 c = search rules
