use Rattle.std.proofs.Common.{◌≡◌, ℕ, List, get_or, ap}
use Rattle.aes.specs.Words.{byte0, byte1, byte2, byte3}
use Rattle.aes.proofs.Bytes.{byte0_lt, byte1_lt, byte2_lt, byte3_lt}
use Rattle.aes.proofs.Columns.{mixed_sub, turned}
use Rattle.aes.proofs.state.column.Goals as goal

pub returns : goal.returns
returns c =
    let x = c.args in
    let p : get_or c.shifted.result 0 0 ≡ byte0 x.a = ap (λ (l : List ℕ). get_or l 0 0) c.shifted.ensures in
    let q : get_or c.shifted.result 1 0 ≡ byte1 x.b = ap (λ (l : List ℕ). get_or l 1 0) c.shifted.ensures in
    let r : get_or c.shifted.result 2 0 ≡ byte2 x.c = ap (λ (l : List ℕ). get_or l 2 0) c.shifted.ensures in
    let s : get_or c.shifted.result 3 0 ≡ byte3 x.d = ap (λ (l : List ℕ). get_or l 3 0) c.shifted.ensures in
    cc (
      mixed_sub x.a x.b x.c x.d,
      turned (byte0 x.a) (byte1 x.b) (byte2 x.c) (byte3 x.d) (byte0_lt x.a) (byte1_lt x.b) (byte2_lt x.c) (byte3_lt x.d),
    )
