-- The worked values of the ciphers, computed by the definitions.
use mathlib.Core.Path.{◌≡◌, refl, ap₂, ◌∙◌}
use mathlib.Core.List.{[]}
use Prim.Native.Nat.{ℕ}
use lib.Bits.{bit_xor}
use lib.Chars.{codes}
use lib.ListN.{take}
use Rattle.sbox.specs.Field.{times, times_bits, xtime}
use Rattle.sbox.specs.Substitution.{sub_byte, affine, inverse, powers, square, turned}
use Rattle.aes.specs.Words.{word, byte0, byte1, byte2, byte3, sub_word, rot_word, rcon, temp, grown, expand, key_words, schedule}
use Rattle.aes.specs.Cipher.{sub_bytes, shifted, shift_rows, xor4, mix_bytes, mix_column, mix_columns, add_round_key, one_round, rounds, last_round, load, store, aes256}
use Rattle.ghash.specs.Field.{halve, halves, pick, partial, product}
use Rattle.gcm.specs.Blocks.{block_bytes, number, block_at}
use Rattle.gcm.specs.Gcm.{absorb, blocks, ghash, counter, key_byte, stream, gctr, encrypted, tag_of}
use Rattle.octets.specs.Hexadecimal.{hexadecimal}
use Rattle.worked.specs.Ciphers.{bytes, key, iv, text, front, added, CiphersWorked}

-- The blocks that cases 15 and 16 encipher: 0, and the counters 1 to 5 under their IV.
enciphered_0 : aes256 key 0x00 ≡ 0xacbef20579b4b8ebce889bac8732dad7
unfolding sub_byte affine inverse powers square turned times times_bits xtime word byte0 byte1 byte2 byte3 sub_word rot_word rcon temp grown expand key_words schedule sub_bytes shifted shift_rows xor4 mix_bytes mix_column mix_columns add_round_key one_round rounds last_round load store
enciphered_0 = refl

enciphered_1 : aes256 key 0xcafebabefacedbaddecaf88800000001 ≡ 0xfd2caa16a5832e76aa132c1453eeda7e
unfolding sub_byte affine inverse powers square turned times times_bits xtime word byte0 byte1 byte2 byte3 sub_word rot_word rcon temp grown expand key_words schedule sub_bytes shifted shift_rows xor4 mix_bytes mix_column mix_columns add_round_key one_round rounds last_round load store
enciphered_1 = refl

enciphered_2 : aes256 key 0xcafebabefacedbaddecaf88800000002 ≡ 0x8b1cf3d561d27be251263e66857164e7
unfolding sub_byte affine inverse powers square turned times times_bits xtime word byte0 byte1 byte2 byte3 sub_word rot_word rcon temp grown expand key_words schedule sub_bytes shifted shift_rows xor4 mix_bytes mix_column mix_columns add_round_key one_round rounds last_round load store
enciphered_2 = refl

enciphered_3 : aes256 key 0xcafebabefacedbaddecaf88800000003 ≡ 0xe29d258faad137135bd49280af645bd8
unfolding sub_byte affine inverse powers square turned times times_bits xtime word byte0 byte1 byte2 byte3 sub_word rot_word rcon temp grown expand key_words schedule sub_bytes shifted shift_rows xor4 mix_bytes mix_column mix_columns add_round_key one_round rounds last_round load store
enciphered_3 = refl

enciphered_4 : aes256 key 0xcafebabefacedbaddecaf88800000004 ≡ 0x908c82ddcc65b26e887f85341f243d1d
unfolding sub_byte affine inverse powers square turned times times_bits xtime word byte0 byte1 byte2 byte3 sub_word rot_word rcon temp grown expand key_words schedule sub_bytes shifted shift_rows xor4 mix_bytes mix_column mix_columns add_round_key one_round rounds last_round load store
enciphered_4 = refl

enciphered_5 : aes256 key 0xcafebabefacedbaddecaf88800000005 ≡ 0x749cf39639b79c5d06aa8d5b932fc7f8
unfolding sub_byte affine inverse powers square turned times times_bits xtime word byte0 byte1 byte2 byte3 sub_word rot_word rcon temp grown expand key_words schedule sub_bytes shifted shift_rows xor4 mix_bytes mix_column mix_columns add_round_key one_round rounds last_round load store
enciphered_5 = refl

-- Their hashes, with the block of counter 1 added.
hashed_15 : hexadecimal (take 12 (block_bytes (bit_xor 0xfd2caa16a5832e76aa132c1453eeda7e (ghash 0xacbef20579b4b8ebce889bac8732dad7 [] (bytes (codes "522dc1f099567d07f47f37a32a84427d643a8cdcbfe5c0c97598a2bd2555d1aa8cb08e48590dbb3da7b08b1056828838c5f61e6393ba7a0abcc9f662898015ad")))))) ≡ codes "b094dac5d93471bdec1a5022"
unfolding halve halves pick partial product block_bytes number block_at absorb blocks hexadecimal
hashed_15 = refl

hashed_16 : hexadecimal (take 12 (block_bytes (bit_xor 0xfd2caa16a5832e76aa132c1453eeda7e (ghash 0xacbef20579b4b8ebce889bac8732dad7 added (bytes (codes "522dc1f099567d07f47f37a32a84427d643a8cdcbfe5c0c97598a2bd2555d1aa8cb08e48590dbb3da7b08b1056828838c5f61e6393ba7a0abcc9f662")))))) ≡ codes "76fc6ece0f4e1768cddf8853"
unfolding halve halves pick partial product block_bytes number block_at absorb blocks hexadecimal
hashed_16 = refl

-- Over a cipher that gives these blocks.
module _ (E : ℕ → ℕ) (e0 : E 0 ≡ 0xacbef20579b4b8ebce889bac8732dad7) (e1 : E 0xcafebabefacedbaddecaf88800000001 ≡ 0xfd2caa16a5832e76aa132c1453eeda7e) (e2 : E 0xcafebabefacedbaddecaf88800000002 ≡ 0x8b1cf3d561d27be251263e66857164e7) (e3 : E 0xcafebabefacedbaddecaf88800000003 ≡ 0xe29d258faad137135bd49280af645bd8) (e4 : E 0xcafebabefacedbaddecaf88800000004 ≡ 0x908c82ddcc65b26e887f85341f243d1d) (e5 : E 0xcafebabefacedbaddecaf88800000005 ≡ 0x749cf39639b79c5d06aa8d5b932fc7f8) where
  body_of_15 : hexadecimal (encrypted E iv text) ≡ codes "522dc1f099567d07f47f37a32a84427d643a8cdcbfe5c0c97598a2bd2555d1aa8cb08e48590dbb3da7b08b1056828838c5f61e6393ba7a0abcc9f662898015ad"
  unfolding halve halves pick partial product block_bytes number block_at absorb blocks counter key_byte stream gctr tag_of hexadecimal
  body_of_15 = rw (e2, e3, e4, e5)

  body_of_16 : hexadecimal (encrypted E iv front) ≡ codes "522dc1f099567d07f47f37a32a84427d643a8cdcbfe5c0c97598a2bd2555d1aa8cb08e48590dbb3da7b08b1056828838c5f61e6393ba7a0abcc9f662"
  unfolding halve halves pick partial product block_bytes number block_at absorb blocks counter key_byte stream gctr tag_of hexadecimal
  body_of_16 = rw (e2, e3, e4, e5)

  tag_of_15 : hexadecimal (tag_of E iv [] (bytes (codes "522dc1f099567d07f47f37a32a84427d643a8cdcbfe5c0c97598a2bd2555d1aa8cb08e48590dbb3da7b08b1056828838c5f61e6393ba7a0abcc9f662898015ad"))) ≡ codes "b094dac5d93471bdec1a5022"
  unfolding tag_of counter number
  tag_of_15 = ap₂ (λ (m h : ℕ). hexadecimal (take 12 (block_bytes (bit_xor m (ghash h [] (bytes (codes "522dc1f099567d07f47f37a32a84427d643a8cdcbfe5c0c97598a2bd2555d1aa8cb08e48590dbb3da7b08b1056828838c5f61e6393ba7a0abcc9f662898015ad"))))))) e1 e0 ∙ hashed_15

  tag_of_16 : hexadecimal (tag_of E iv added (bytes (codes "522dc1f099567d07f47f37a32a84427d643a8cdcbfe5c0c97598a2bd2555d1aa8cb08e48590dbb3da7b08b1056828838c5f61e6393ba7a0abcc9f662"))) ≡ codes "76fc6ece0f4e1768cddf8853"
  unfolding tag_of counter number
  tag_of_16 = ap₂ (λ (m h : ℕ). hexadecimal (take 12 (block_bytes (bit_xor m (ghash h added (bytes (codes "522dc1f099567d07f47f37a32a84427d643a8cdcbfe5c0c97598a2bd2555d1aa8cb08e48590dbb3da7b08b1056828838c5f61e6393ba7a0abcc9f662"))))))) e1 e0 ∙ hashed_16

pub ciphers_worked : CiphersWorked
unfolding sub_byte affine inverse powers square turned times times_bits xtime word byte0 byte1 byte2 byte3 sub_word rot_word rcon temp grown expand key_words schedule sub_bytes shifted shift_rows xor4 mix_bytes mix_column mix_columns add_round_key one_round rounds last_round load store halve halves pick partial product block_bytes number block_at absorb blocks counter key_byte stream gctr tag_of hexadecimal
ciphers_worked = record {
  block = refl;
  body_13 = refl;
  tag_13 = refl;
  body_14 = refl;
  tag_14 = refl;
  body_15 = body_of_15 (aes256 key) enciphered_0 enciphered_1 enciphered_2 enciphered_3 enciphered_4 enciphered_5;
  tag_15 = tag_of_15 (aes256 key) enciphered_0 enciphered_1 enciphered_2 enciphered_3 enciphered_4 enciphered_5;
  body_16 = body_of_16 (aes256 key) enciphered_0 enciphered_1 enciphered_2 enciphered_3 enciphered_4 enciphered_5;
  tag_16 = tag_of_16 (aes256 key) enciphered_0 enciphered_1 enciphered_2 enciphered_3 enciphered_4 enciphered_5;
}
