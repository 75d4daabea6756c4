use Rattle.std.proofs.Common.{◌≡◌, ◌*◌, ◌%◌, ◌^◌, arith}
use Rattle.aes.specs.Cipher.{store}
use Rattle.aes.proofs.Loops.{join_words}
use Rattle.aes.proofs.state.joined.Goals as goal

pub returns : goal.returns
unfolding store
returns c =
    let s = c.args.s in
    let e0 : s.c0 * 2 ^ 96 % 2 ^ 128 ≡ s.c0 * 2 ^ 96 = omega arith in
    let e1 : s.c1 * 2 ^ 64 % 2 ^ 128 ≡ s.c1 * 2 ^ 64 = omega arith in
    let e2 : s.c2 * 2 ^ 32 % 2 ^ 128 ≡ s.c2 * 2 ^ 32 = omega arith in
    cc (join_words s.c0 s.c1 s.c2 s.c3 (omega arith) (omega arith) (omega arith) (omega arith))
