use Rattle.std.proofs.Common.{refl}
use Rattle.octets.specs.Equality.{same}
use Rattle.names.specs.Names.{letters}
use Rattle.names.proofs.laws.names_worked.Goals as goal

pub returns : goal.returns
unfolding letters same
returns c =
    record {
      word = refl;
      alphabet = refl;
      empty = refl;
      dot = refl;
      two_dots = refl;
      three_dots = refl;
      hidden = refl;
      of_32 = refl;
      of_33 = refl;
      slash = refl;
      space = refl;
      colon = refl;
      at_sign = refl;
      bracket = refl;
      brace = refl;
      user_of_16 = refl;
      user_of_17 = refl;
      user_dots = refl;
      user_empty = refl;
    }
