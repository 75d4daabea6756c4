use Rattle.std.proofs.Common.{rules}
use Rattle.aes.proofs.MixRule.{mix_rule}
use Rattle.aes.proofs.mixed.mixed.Goals as goal

pub returns : goal.returns
returns c = mix_rule c.args.b (search rules)
