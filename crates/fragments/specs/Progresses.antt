-- How far a file has come in fragments.
use Rattle.std.specs.Prelude.{ℕ, ◌+◌, Bool, cond, not, ◌&&◌, List, length, is_ok, Ok, Err, Result}
use Rattle.digest.specs.Running.{Running, start, absorb, finished}
use Rattle.digest.specs.Stands.{running}
use Rattle.octets.specs.Equality.{same}
use Rattle.fragments.specs.declared.progress.Progress.{Progress}
use Rattle.fragments.specs.declared.refusal.FragmentRefusal.{FragmentRefusal}
use Rattle.fragments.specs.declared.refusal.FragmentRefusal.TheVariants.{SizeRule, Digest}
use Rattle.fragments.specs.Rule.{fits}

-- The bytes so far, the announced size and digest, and the digest under way.
pub record Standing : Type 0 where
  pub so_far : ℕ
  pub size : ℕ
  pub announced : List ℕ
  pub digest : Running

-- What a Progress stands for.
abbrev pub standing : Progress → Standing
standing p = record { so_far = p.so_far; size = p.size; announced = p.announced; digest = running p.hasher }

-- Before the first fragment.
abbrev pub begun : ℕ → List ℕ → Standing
begun s a = record { so_far = 0; size = s; announced = a; digest = start }

-- After the fragment d.
abbrev pub advanced : Standing → List ℕ → Standing
advanced g d = record { so_far = g.so_far + length d; size = g.size; announced = g.announced; digest = absorb g.digest d }

-- What a fragment d gets: first the rule for its size, then, at the last, the digest of the whole.
abbrev pub verdict : Standing → List ℕ → Bool → Result Bool FragmentRefusal
verdict g d last =
    cond (fits g.so_far g.size (length d) last)
    (cond (last && not (same (finished (absorb g.digest d)) g.announced)) (Err Digest) (Ok last))
    (Err SizeRule)

-- Where it then stands: a refused fragment changes nothing.
abbrev pub after : Standing → List ℕ → Bool → Standing
after g d last = cond (is_ok (verdict g d last)) (advanced g d) g
