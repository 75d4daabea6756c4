-- Worked values of AES-256 and of AES-256-GCM, as statements about the definitions that the contracts cite.
use Rattle.std.specs.Prelude.{◌≡◌, cond, List, [], ◌∷◌, ℕ, ◌+◌, ◌-◌, ◌*◌, codes, ltb, replicate}
use Rattle.aes.specs.Cipher.{aes256}
use Rattle.gcm.specs.Gcm.{encrypted, tag_of}
use Rattle.octets.specs.Hexadecimal.{hexadecimal}

-- The bytes of a text of hexadecimal digits.
abbrev value : ℕ → ℕ
value c = cond (ltb c 58) (c - 48) (c - 87)

abbrev pub bytes : List ℕ → List ℕ
bytes [] = []
bytes (c ∷ []) = []
bytes (c ∷ d ∷ cs) = (value c * 16 + value d) ∷ bytes cs

-- The key of the example of FIPS 197, appendix C.3: the bytes 0 to 31.
abbrev pub counted : List ℕ
counted = bytes (codes "000102030405060708090a0b0c0d0e0f101112131415161718191a1b1c1d1e1f")

-- Key, IV and text of the GCM specification's test cases 15 and 16, and the additional data of the second.
abbrev pub key : List ℕ
key = bytes (codes "feffe9928665731c6d6a8f9467308308feffe9928665731c6d6a8f9467308308")

abbrev pub iv : List ℕ
iv = bytes (codes "cafebabefacedbaddecaf888")

abbrev pub text : List ℕ
text = bytes (codes "d9313225f88406e5a55909c5aff5269a86a7a9531534f7da2e4c303d8a318a721c3c0c95956809532fcf0e2449a6b525b16aedf5aa0de657ba637b391aafd255")

abbrev pub front : List ℕ
front = bytes (codes "d9313225f88406e5a55909c5aff5269a86a7a9531534f7da2e4c303d8a318a721c3c0c95956809532fcf0e2449a6b525b16aedf5aa0de657ba637b39")

abbrev pub added : List ℕ
added = bytes (codes "feedfacedeadbeeffeedfacedeadbeefabaddad2")

-- Tags are cut to 96 bits.
pub record CiphersWorked : Type 0 where
  pub block : aes256 counted 0x00112233445566778899aabbccddeeff ≡ 0x8ea2b7ca516745bfeafc49904b496089
  pub body_13 : hexadecimal (encrypted (aes256 (replicate 32 0)) (replicate 12 0) []) ≡ []
  pub tag_13 : hexadecimal (tag_of (aes256 (replicate 32 0)) (replicate 12 0) [] []) ≡ codes "530f8afbc74536b9a963b4f1"
  pub body_14 : hexadecimal (encrypted (aes256 (replicate 32 0)) (replicate 12 0) (replicate 16 0)) ≡ codes "cea7403d4d606b6e074ec5d3baf39d18"
  pub tag_14 : hexadecimal (tag_of (aes256 (replicate 32 0)) (replicate 12 0) [] (bytes (codes "cea7403d4d606b6e074ec5d3baf39d18"))) ≡ codes "d0d1c8a799996bf0265b98b5"
  pub body_15 : hexadecimal (encrypted (aes256 key) iv text) ≡ codes "522dc1f099567d07f47f37a32a84427d643a8cdcbfe5c0c97598a2bd2555d1aa8cb08e48590dbb3da7b08b1056828838c5f61e6393ba7a0abcc9f662898015ad"
  pub tag_15 : hexadecimal (tag_of (aes256 key) iv [] (bytes (codes "522dc1f099567d07f47f37a32a84427d643a8cdcbfe5c0c97598a2bd2555d1aa8cb08e48590dbb3da7b08b1056828838c5f61e6393ba7a0abcc9f662898015ad"))) ≡ codes "b094dac5d93471bdec1a5022"
  pub body_16 : hexadecimal (encrypted (aes256 key) iv front) ≡ codes "522dc1f099567d07f47f37a32a84427d643a8cdcbfe5c0c97598a2bd2555d1aa8cb08e48590dbb3da7b08b1056828838c5f61e6393ba7a0abcc9f662"
  pub tag_16 : hexadecimal (tag_of (aes256 key) iv added (bytes (codes "522dc1f099567d07f47f37a32a84427d643a8cdcbfe5c0c97598a2bd2555d1aa8cb08e48590dbb3da7b08b1056828838c5f61e6393ba7a0abcc9f662"))) ≡ codes "76fc6ece0f4e1768cddf8853"
