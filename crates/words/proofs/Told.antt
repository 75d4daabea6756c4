-- Words and their texts.
use Rattle.std.proofs.Common.{◌≡◌, ℕ, Bool, true, false, cond, List, Some, None, codes, Option, refl, arith}
use Rattle.octets.specs.Equality.{same}
use Rattle.octets.proofs.Agreement.{same_decides}
use Rattle.words.specs.declared.word.Word.{Word}
use Rattle.words.specs.declared.word.Word.TheVariants.{Pwd, Lst, Chd, Mkd, Del, Upl, Dnl}
use Rattle.words.specs.Words.{word_text, word_of, WordsTold}

word_back : (w : Word) → word_of (word_text w) ≡ Some w
unfolding same
word_back Pwd = refl
word_back Lst = refl
word_back Chd = refl
word_back Mkd = refl
word_back Del = refl
word_back Upl = refl
word_back Dnl = refl

-- A test in a chain: where it holds, the field is that word's text; else the chain goes on.
step : (f : List ℕ) (v w : Word) (rest : Option Word) (q : Bool) → (q ≡ true → f ≡ word_text v) → (rest ≡ Some w → f ≡ word_text w)
    → cond q (Some v) rest ≡ Some w → f ≡ word_text w
step f v w rest true h k e = let s : v ≡ w = cc in rw (← s) (h refl)
step f v w rest false h k e = k e

word_only : (f : List ℕ) (w : Word) → word_of f ≡ Some w → f ≡ word_text w
word_only f w =
    step f Pwd w _ _ (same_decides f (codes "pwd")).0
    (step f Lst w _ _ (same_decides f (codes "lst")).0
    (step f Chd w _ _ (same_decides f (codes "chd")).0
    (step f Mkd w _ _ (same_decides f (codes "mkd")).0
    (step f Del w _ _ (same_decides f (codes "del")).0
    (step f Upl w _ _ (same_decides f (codes "upl")).0
    (step f Dnl w None _ (same_decides f (codes "dnl")).0 (λ e. let z : ◌≡◌ {A = ℕ} 0 1 = cc in absurd (omega arith))))))))

pub words_told : WordsTold
words_told = record { back = word_back; only = word_only }
