use Rattle.std.proofs.Common.{refl}
use Rattle.numerals.specs.Decimals.{only_digits, number_after, decimal_as}
use Rattle.numerals.specs.Digests.{bytes_of, digest_of}
use Rattle.numerals.proofs.laws.numerals_worked.Goals as goal

pub returns : goal.returns
unfolding only_digits number_after decimal_as bytes_of digest_of
returns c =
    record {
      zero = refl;
      empty = refl;
      leading = refl;
      zeros = refl;
      signed = refl;
      spaced = refl;
      last32 = refl;
      past32 = refl;
      last64 = refl;
      past64 = refl;
      nine = refl;
      ten = refl;
      upper = refl;
      past = refl;
      short = refl;
    }
