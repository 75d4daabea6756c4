use Rattle.std.proofs.Common.{◌≡◌, ℕ, List, get_or, ap}
use Rattle.aes.specs.Words.{byte0, byte1, byte2, byte3}
use Rattle.aes.proofs.state.shifted.Goals as goal

pub returns : goal.returns
unfolding byte0 byte1 byte2 byte3
returns c =
    let x = c.args in
    let p : get_or c.to_be_bytes.result 0 0 ≡ byte0 x.a = ap (λ (l : List ℕ). get_or l 0 0) c.to_be_bytes.ensures in
    let q : get_or c.to_be_bytes-2.result 1 0 ≡ byte1 x.b = ap (λ (l : List ℕ). get_or l 1 0) c.to_be_bytes-2.ensures in
    let r : get_or c.to_be_bytes-3.result 2 0 ≡ byte2 x.c = ap (λ (l : List ℕ). get_or l 2 0) c.to_be_bytes-3.ensures in
    let s : get_or c.to_be_bytes-4.result 3 0 ≡ byte3 x.d = ap (λ (l : List ℕ). get_or l 3 0) c.to_be_bytes-4.ensures in
    rw (p, q, r, s)
