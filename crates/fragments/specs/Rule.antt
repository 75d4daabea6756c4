-- How a file goes over the line in fragments.
use Rattle.std.specs.Prelude.{ℕ, ◌+◌, ◌-◌, Bool, true, false, cond, ◌&&◌, Some, None, Option, ◌==◌, nat_le, nat_lt}
use Rattle.fragments.specs.declared.rule.Fragment.{Fragment}

-- Of a file of s bytes, n have gone before. A fragment of k bytes that is not the last has 1,024 bytes and leaves some to come;
-- the last has at most 1,024 bytes and ends at s.
abbrev pub fits : ℕ → ℕ → ℕ → Bool → Bool
fits n s k last = cond last (nat_le k 1024 && n + k == s) (k == 1024 && nat_lt (n + 1024) s)

-- The fragment that is due then; none where more than s bytes have gone.
abbrev pub due : ℕ → ℕ → Option Fragment
due n s =
    cond (nat_lt (n + 1024) s) (Some record { length = 1024; last = false })
    (cond (nat_le n s) (Some record { length = s - n; last = true }) None)
