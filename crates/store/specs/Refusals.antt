-- When a store refuses a call: for each call the first refusal that applies, or none.
use Rattle.std.specs.Prelude.{ℕ, ◌+◌, Bool, true, false, ◌&&◌, List, length, Some, None, Option, ◌==◌, nat_le}
use Rattle.std.specs.Option.{option_map}
use Rattle.store.specs.Meaning.{Entry, Draft, State, find, contents}
use Rattle.store.specs.declared.fault.StoreFault.{StoreFault}
use Rattle.store.specs.declared.fault.StoreFault.TheVariants.{ShortBuffer, DraftState, NoSuchKey, KeyExists, NoSpace, Held, WrongSize, BadKey}

-- The first of two refusals, and one unless a test holds.
abbrev pub then : Option StoreFault → Option StoreFault → Option StoreFault
then None q = q
then (Some f) q = Some f

abbrev pub unless : Bool → StoreFault → Option StoreFault
unless true f = None
unless false f = Some f

-- 31: a key has 1 to 96 bytes.
abbrev pub bad_key : List ℕ → Option StoreFault
bad_key k = unless (nat_le 1 (length k) && nat_le (length k) 96) BadKey

-- 24 and 25: the key is absent, is there.
abbrev pub absent : Option Entry → Option StoreFault
absent None = Some NoSuchKey
absent (Some e) = None

abbrev pub present : Option Entry → Option StoreFault
present None = None
present (Some e) = Some KeyExists

-- 23: there is a draft.
abbrev pub drafting : Option Draft → Option StoreFault
drafting None = None
drafting (Some d) = Some DraftState

-- 3: a key buffer has at least 96 bytes.
abbrev pub buffer_refusal : List ℕ → Option StoreFault
buffer_refusal buffer = unless (nat_le 96 (length buffer)) ShortBuffer

abbrev pub read_refusal : List Entry → List ℕ → ℕ → Option StoreFault
read_refusal es k offset = then (bad_key k) (then (absent (find k es)) (unless (nat_le offset (length (contents (find k es)))) WrongSize))

abbrev pub open_refusal : List Entry → State → List ℕ → ℕ → Option StoreFault
open_refusal es st k n = then (drafting st.draft) (then (bad_key k) (then (present (find k es)) (option_map NoSpace (st.spaces k n))))

abbrev pub remove_refusal : List Entry → State → List ℕ → ℕ → Option StoreFault
remove_refusal es st k day = then (drafting st.draft) (then (bad_key k) (then (absent (find k es)) (option_map Held (st.holds k day))))

abbrev pub append_refusal : Option Draft → List ℕ → Option StoreFault
append_refusal None bs = Some DraftState
append_refusal (Some d) bs = unless (nat_le (length d.bytes + length bs) d.size) WrongSize

abbrev pub keep_refusal : Option Draft → Option StoreFault
keep_refusal None = Some DraftState
keep_refusal (Some d) = unless (length d.bytes == d.size) WrongSize

abbrev pub drop_refusal : Option Draft → Option StoreFault
drop_refusal None = Some DraftState
drop_refusal (Some d) = None
