-- A cell's hosts are numbered from 0; a set of hosts is a number with one bit a host. Assumes
-- nothing.
use Rattle.std.specs.Prelude.{ℕ, zero, suc, ◌+◌, ◌-◌, ◌/◌, ◌%◌, ◌^◌, ◌<◌, ◌≡◌, Bool, true, cond}
use Rattle.std.specs.Prelude.{◌&&◌, ◌||◌, List, [], ◌∷◌, ltb, leb, eqb}
use Rattle.std.specs.Int.Bits.{bit_or}
use Rattle.std.specs.Int.Count.{ones}

-- a cell has 1 to 9 hosts
abbrev pub most_hosts : ℕ
most_hosts = 9

abbrev pub cell_fits : ℕ → Bool
cell_fits n = leb 1 n && leb n most_hosts

-- the bit of a host: 1 where it is in the set
abbrev pub bit : ℕ → ℕ → ℕ
bit set h = set / 2 ^ h % 2

abbrev pub is_in : ℕ → ℕ → Bool
is_in set h = eqb (bit set h) 1

-- the set of one host
abbrev pub single_of : ℕ → ℕ
single_of h = 2 ^ h

-- the set with one host more
abbrev pub with_host : ℕ → ℕ → ℕ
with_host set h = bit_or set (single_of h)

-- all n hosts
abbrev pub everyone_of : ℕ → ℕ
everyone_of n = 2 ^ n - 1

-- all n hosts but one of them
abbrev pub others_of : ℕ → ℕ → ℕ
others_of n h = everyone_of n - single_of h

-- no host of n or more is in the set
abbrev pub is_below : ℕ → ℕ → Bool
is_below set n = ltb set (2 ^ n)

-- no host but h is in the set
abbrev pub is_only : ℕ → ℕ → Bool
is_only set h = eqb set 0 || eqb set (single_of h)

-- the number of ones
abbrev pub size_of : ℕ → ℕ
size_of set = ones set

-- 'a majority is floor(n / 2) + 1 hosts'
abbrev pub majority_size : ℕ → ℕ
majority_size n = n / 2 + 1

-- in the field's word a quorum
unfoldable pub is_majority : ℕ → ℕ → Bool
is_majority n set = leb (majority_size n) (size_of set)

-- those of the k hosts from h on that are in the set, rising
unfoldable pub members_from : ℕ → ℕ → ℕ → List ℕ
members_from set h zero = []
members_from set h (suc k) =
    cond (is_in set h) (h ∷ members_from set (suc h) k) (members_from set (suc h) k)

-- the hosts of a set, of n, rising
abbrev pub members : ℕ → ℕ → List ℕ
members n set = members_from set 0 n

-- a host below n that is in the set
pub record Member (n set h : ℕ) : Type 0 where
  pub below : h < n
  pub within : is_in set h ≡ true
