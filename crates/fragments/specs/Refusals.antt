-- The numbers of the refusals of a fragment.
use Rattle.std.specs.Prelude.{ℕ}
use Rattle.fragments.specs.declared.refusal.FragmentRefusal.{FragmentRefusal}
use Rattle.fragments.specs.declared.refusal.FragmentRefusal.TheVariants.{SizeRule, Digest}

abbrev pub number : FragmentRefusal → ℕ
number SizeRule = 18
number Digest = 19
