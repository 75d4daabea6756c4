use Rattle.std.proofs.Common.{◌≡◌, get_or}
use Rattle.gcm.proofs.Stream.{partly}
use Rattle.gcm.proofs.blocks.add_stream.Given as goal

abbrev pub invariant-loop-k : goal.invariant-loop-k
invariant-loop-k g l = l.part ≡ partly (λ k. get_or l.ks k 0) l.k l.initial.part
