-- The length of a message.
use Rattle.std.proofs.Common.{◌≡◌, ◌+◌, [], ◌++◌, length, ◌∙◌, arith, length-append}
use Rattle.headers.specs.Headers.{header_bytes}
use Rattle.message.specs.Messages.{heading, message}
use Rattle.message.specs.Lengths.{LengthOfAMessage, LengthsWorked}

pub length_of : LengthOfAMessage
unfolding message
length_of s keeps c n random payload after =
    let h = header_bytes (heading c n random (length payload) (length after)) in
    let b : length (s h payload).0 ≡ length payload = keeps.level h payload in
    let t : length (s h payload).1 ≡ 12 = keeps.twelve h payload in
    let x : length ((s h payload).1 ++ after) ≡ length (s h payload).1 + length after = length-append (s h payload).1 after in
    let y : length ((s h payload).0 ++ ((s h payload).1 ++ after)) ≡ length (s h payload).0 + length ((s h payload).1 ++ after) =
    length-append (s h payload).0 ((s h payload).1 ++ after) in
    length-append h ((s h payload).0 ++ ((s h payload).1 ++ after)) ∙ omega arith

pub worked : LengthsWorked
worked = record {
  ready = λ s keeps c n random. length_of s keeps c n random _ [];
  listing = λ s keeps c n random payload e. length_of s keeps c n random payload [] ∙ omega arith;
}
