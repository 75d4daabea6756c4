-- What is said of names and users in plain words.
use Rattle.std.specs.Prelude.{◌≡◌, ℕ, ◌≤◌, true, false, ◌⊎◌, List, [], ◌∷◌, length, codes, Decides}
use Rattle.std.specs.List.{AllByRecursion}
use Rattle.names.specs.Names.{name, user}

-- A to Z, a to z, 0 to 9, hyphen, dot or underscore.
abbrev pub Letter : ℕ → Type 0
Letter b =
    ((65 ≤ b) × (b ≤ 90)) ⊎ (((97 ≤ b) × (b ≤ 122)) ⊎ (((48 ≤ b) × (b ≤ 57)) ⊎ ((b ≡ 45) ⊎ ((b ≡ 46) ⊎ (b ≡ 95)))))

-- 1 to `most` letters, and neither one dot nor two dots.
pub record Told (most : ℕ) (t : List ℕ) : Type 0 where
  pub some : 1 ≤ length t
  pub few : length t ≤ most
  pub every : AllByRecursion Letter t
  pub no_dot : t ≡ 46 ∷ [] → ⊥
  pub no_dots : t ≡ 46 ∷ 46 ∷ [] → ⊥

-- A name has 1 to 32 bytes, and a user 1 to 16.
abbrev pub NamesTold : Type 0
NamesTold = (t : List ℕ) → Decides (name t) (Told 32 t)

abbrev pub UsersTold : Type 0
UsersTold = (t : List ℕ) → Decides (user t) (Told 16 t)

-- A user is a name, and a name of at most 16 bytes is a user.
abbrev pub UsersAreNames : Type 0
UsersAreNames = (t : List ℕ) → (user t ≡ true → name t ≡ true) × (name t ≡ true → length t ≤ 16 → user t ≡ true)

-- Worked examples.
pub record NamesWorked : Type 0 where
  pub word : name (codes "reel7") ≡ true
  pub alphabet : name (codes "Az0.9_Z-a") ≡ true
  pub empty : name (codes "") ≡ false
  pub dot : name (codes ".") ≡ false
  pub two_dots : name (codes "..") ≡ false
  pub three_dots : name (codes "...") ≡ true
  pub hidden : name (codes ".a") ≡ true
  pub of_32 : name (codes "abcdefghijklmnopqrstuvwxyz-01234") ≡ true
  pub of_33 : name (codes "abcdefghijklmnopqrstuvwxyz-012345") ≡ false
  pub slash : name (codes "a/b") ≡ false
  pub space : name (codes "a b") ≡ false
  pub colon : name (codes "9:") ≡ false
  pub at_sign : name (codes "A@") ≡ false
  pub bracket : name (codes "Z[") ≡ false
  pub brace : name (codes "z{") ≡ false
  pub user_of_16 : user (codes "abcdefghijklm_16") ≡ true
  pub user_of_17 : user (codes "abcdefghijklmn_17") ≡ false
  pub user_dots : user (codes "..") ≡ false
  pub user_empty : user (codes "") ≡ false
