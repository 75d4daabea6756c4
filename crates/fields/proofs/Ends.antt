-- What a result tells of the steps that it came from.
use Rattle.std.proofs.Common.{◌≡◌, ℕ, true, is_some, Some, None, Ok, Err, Option, Result, refl, arith}
use Rattle.std.specs.Option.{ok_or}
use Rattle.fields.specs.Takes.{shown, and_then}

-- A refusal is no answer.
pub err_not_ok : {X E : Type 0} (e : E) (x : X) → ◌≡◌ {A = Result X E} (Err e) (Ok x) → ⊥
err_not_ok e x h = let z : ◌≡◌ {A = ℕ} 0 1 = cc in omega arith

pub none_not_some : {X : Type 0} (x : X) → ◌≡◌ {A = Option X} None (Some x) → ⊥
none_not_some x h = let z : ◌≡◌ {A = ℕ} 0 1 = cc in omega arith

-- Two answers that are equal.
pub same_ok : {X E : Type 0} (x y : X) → ◌≡◌ {A = Result X E} (Ok x) (Ok y) → x ≡ y
same_ok x y h = cc

-- An answer came from an answer.
pub shown_ok : {X Y E : Type 0} (f : X → Y) (r : Result X E) (y : Y) → shown f r ≡ Ok y → (x : X) × ((r ≡ Ok x) × (f x ≡ y))
shown_ok f (Ok x) y h = (x, (refl, same_ok (f x) y h))
shown_ok f (Err e) y h = absurd (err_not_ok e y h)

pub and_then_ok : {X Y E : Type 0} (r : Result X E) (f : X → Result Y E) (y : Y) → and_then r f ≡ Ok y → (x : X) × ((r ≡ Ok x) × (f x ≡ Ok y))
and_then_ok (Ok x) f y h = (x, (refl, h))
and_then_ok (Err e) f y h = absurd (err_not_ok e y h)

pub ok_or_ok : {X E : Type 0} (o : Option X) (e : E) (x : X) → ok_or o e ≡ Ok x → o ≡ Some x
ok_or_ok None e x h = absurd (err_not_ok e x h)
ok_or_ok (Some y) e x h = let s = same_ok y x h in rw s

-- What is there.
pub some_value : {X : Type 0} (o : Option X) → is_some o ≡ true → (x : X) × (o ≡ Some x)
some_value None h = let z : ◌≡◌ {A = ℕ} 0 1 = cc in absurd (omega arith)
some_value (Some x) h = (x, refl)
