-- The worked values, computed by the definitions.
use mathlib.Core.Path.{refl}
use Rattle.digest.specs.Sha256.{constants, scheduled, schedule, round, rounds, compress, hashed, be8, zeros, padding, padded, output, sha256}
use Rattle.mac.specs.Hmac.{key_block, inner_key, outer_key, hmac}
use Rattle.mac.specs.Pbkdf2.{iterated, folded, pbkdf2}
use Rattle.octets.specs.Hexadecimal.{hexadecimal}
use Rattle.worked.specs.Values.{DigestsWorked, CodesWorked, KeysWorked}

pub digests_worked : DigestsWorked
unfolding constants scheduled schedule round rounds compress hashed be8 zeros padding padded output sha256 hexadecimal
digests_worked = record { empty = refl; abc = refl; two_blocks = refl; long = refl; pwd = refl; lst = refl; chd = refl; dnl = refl }

pub codes_worked : CodesWorked
unfolding constants scheduled schedule round rounds compress hashed be8 zeros padding padded output sha256 key_block inner_key outer_key hmac hexadecimal
codes_worked = record { case_1 = refl; case_2 = refl; case_3 = refl; case_4 = refl; case_6 = refl; case_7 = refl }

pub keys_worked : KeysWorked
unfolding constants scheduled schedule round rounds compress hashed be8 zeros padding padded output sha256 key_block inner_key outer_key hmac iterated folded pbkdf2 hexadecimal
keys_worked = record { passwd = refl; one_round = refl; two_rounds = refl; no_round = refl }
