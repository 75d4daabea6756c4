-- What an expanded key stands for.
use Rattle.std.specs.Prelude.{ℕ}
use Rattle.aes.specs.declared.Aes256.{Aes256}
use Rattle.aes.specs.Cipher.{cipher}

-- The block cipher under it.
abbrev pub under : Aes256 → ℕ → ℕ
under k = cipher k.words
