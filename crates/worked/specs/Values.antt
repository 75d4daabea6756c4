-- Worked values of the public documents, as statements about the definitions that the contracts cite.
use Rattle.std.specs.Prelude.{◌≡◌, [], ◌∷◌, ◌++◌, codes, replicate}
use Rattle.digest.specs.Sha256.{sha256}
use Rattle.mac.specs.Hmac.{hmac}
use Rattle.mac.specs.Pbkdf2.{pbkdf2}
use Rattle.octets.specs.Hexadecimal.{hexadecimal}

-- SHA-256: the empty message and the examples of FIPS 180-4; then commands of the SiFT v1.1 text, with the digests that it gives.
pub record DigestsWorked : Type 0 where
  pub empty : hexadecimal (sha256 (codes "")) ≡ codes "e3b0c44298fc1c149afbf4c8996fb92427ae41e4649b934ca495991b7852b855"
  pub abc : hexadecimal (sha256 (codes "abc")) ≡ codes "ba7816bf8f01cfea414140de5dae2223b00361a396177a9cb410ff61f20015ad"
  pub two_blocks : hexadecimal (sha256 (codes "abcdbcdecdefdefgefghfghighijhijkijkljklmklmnlmnomnopnopq")) ≡ codes "248d6a61d20638b8e5c026930c3e6039a33ce45964ff2167f6ecedd419db06c1"
  pub long : hexadecimal (sha256 (codes "abcdefghbcdefghicdefghijdefghijkefghijklfghijklmghijklmnhijklmnoijklmnopjklmnopqklmnopqrlmnopqrsmnopqrstnopqrstu")) ≡ codes "cf5b16a778af8380036ce59e7b0492370b249b11e8f07a51afac45037afee9d1"
  pub pwd : hexadecimal (sha256 (codes "pwd")) ≡ codes "a1159e9df3670d549d04524532629f5477ceb7deec9b45e47e8c009506ecb2c8"
  pub lst : hexadecimal (sha256 (codes "lst")) ≡ codes "274088a0cde8b724153ed9396a946299f10c19c6cf593a19ce57c52580a32dcb"
  pub chd : hexadecimal (sha256 (codes "chd" ++ 10 ∷ codes "testdir")) ≡ codes "919963f263c2d6889fb91f9fea17abc5f11aa112b9a46a71c3e179ae43c617d3"
  pub dnl : hexadecimal (sha256 (codes "dnl" ++ 10 ∷ codes "test_2.txt")) ≡ codes "e0c810c0b393712e6438eec29b7fbf88f960fdd229da193e9d139099b6c58f58"

-- HMAC-SHA-256: the cases of RFC 4231 that give the whole code.
pub record CodesWorked : Type 0 where
  pub case_1 : hexadecimal (hmac (replicate 20 0x0b) (codes "Hi There")) ≡ codes "b0344c61d8db38535ca8afceaf0bf12b881dc200c9833da726e9376c2e32cff7"
  pub case_2 : hexadecimal (hmac (codes "Jefe") (codes "what do ya want for nothing?")) ≡ codes "5bdcc146bf60754e6a042426089575c75a003f089d2739839dec58b964ec3843"
  pub case_3 : hexadecimal (hmac (replicate 20 0xaa) (replicate 50 0xdd)) ≡ codes "773ea91e36800e46854db8ebd09181a72959098b3ef8c122d9635514ced565fe"
  pub case_4 : hexadecimal (hmac (1 ∷ 2 ∷ 3 ∷ 4 ∷ 5 ∷ 6 ∷ 7 ∷ 8 ∷ 9 ∷ 10 ∷ 11 ∷ 12 ∷ 13 ∷ 14 ∷ 15 ∷ 16 ∷ 17 ∷ 18 ∷ 19 ∷ 20 ∷ 21 ∷ 22 ∷ 23 ∷ 24 ∷ 25 ∷ []) (replicate 50 0xcd)) ≡ codes "82558a389a443c0ea4cc819899f2083a85f0faa3e578f8077a2e3ff46729665b"
  pub case_6 : hexadecimal (hmac (replicate 131 0xaa) (codes "Test Using Larger Than Block-Size Key - Hash Key First")) ≡ codes "60e431591ee0b67f0d8a26aacbf5b77f8e0bc6213728c5140546040f0ee37f54"
  pub case_7 : hexadecimal (hmac (replicate 131 0xaa) (codes "This is a test using a larger than block-size key and a larger than block-size data. The key needs to be hashed before being used by the HMAC algorithm.")) ≡ codes "9b09ffa71b942fcb27635fbcd5b0e944bfdc63644f0713938a7f51535c3a35e2"

-- PBKDF2-HMAC-SHA-256: the first case of RFC 7914, section 11, by its first 32 bytes, and two of one and two rounds that are in wide use;
-- no round counts as one.
pub record KeysWorked : Type 0 where
  pub passwd : hexadecimal (pbkdf2 (codes "passwd") (codes "salt") 1) ≡ codes "55ac046e56e3089fec1691c22544b605f94185216dde0465e68b9d57c20dacbc"
  pub one_round : hexadecimal (pbkdf2 (codes "password") (codes "salt") 1) ≡ codes "120fb6cffcf8b32c43e7225256c4f837a86548c92ccc35480805987cb70be17b"
  pub two_rounds : hexadecimal (pbkdf2 (codes "password") (codes "salt") 2) ≡ codes "ae4d0c95af6b46d32d0adff928f06dd02a303f8ef3c251dfd6e2d85a95474c43"
  pub no_round : pbkdf2 (codes "password") (codes "salt") 0 ≡ pbkdf2 (codes "password") (codes "salt") 1
