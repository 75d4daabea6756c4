use Rattle.std.proofs.Common.{refl}
use Rattle.names.specs.Names.{letters}
use Rattle.numerals.specs.Decimals.{only_digits, number_after, decimal_as}
use Rattle.numerals.specs.Digests.{bytes_of, digest_of}
use Rattle.octets.specs.Equality.{same}
use Rattle.payloads.proofs.laws.payloads_worked.Goals as goal

pub returns : goal.returns
unfolding letters only_digits number_after decimal_as bytes_of digest_of same
returns c =
    record {
      log_in = refl;
      no_password = refl;
      empty = refl;
      stamp_open = refl;
      stamp_only = refl;
      user_open = refl;
      user_only = refl;
      password_open = refl;
      surplus = refl;
      surplus_empty = refl;
      leading_zero = refl;
      user_of_17 = refl;
      password_of_64 = refl;
      password_of_65 = refl;
      ready = refl;
      cancel = refl;
      other_word = refl;
      word_surplus = refl;
      short_digest = refl;
      digest = refl;
      digest_surplus = refl;
      receipt = refl;
      no_size = refl;
      large_size = refl;
      receipt_surplus = refl;
    }
