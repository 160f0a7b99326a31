-- "Memory" and "Marks": words in a list of bytes, and one mark bit for each 8 heap bytes.
-- Every access is total: what lies past the end of a list reads as 0 and is not written. An address below `base` is taken for
-- `base`; no call asks for one.
-- A place (01's term) is a heap address, a multiple of 8, at which a mark is or may be set.
use Rattle.std.specs.Prelude.{if◌then◌else◌, ℕ, zero, suc, ◌+◌, ◌-◌, ◌*◌, ◌/◌, ◌%◌, ◌^◌, Bool, ◌&&◌, List, [], ◌∷◌, eqb, get_or, set, replicate, length}
use Rattle.model.specs.declared.Params.{Params}
use Rattle.model.specs.Params.{in_heap}

-- the number that the n bytes from i on make, low byte first; and the n bytes that hold v
unfoldable pub load_bytes : ℕ → List ℕ → ℕ → ℕ
load_bytes zero bytes i = 0
load_bytes (suc n) bytes i = get_or bytes i 0 + 256 * load_bytes n bytes (i + 1)

unfoldable pub bytes_of : ℕ → ℕ → List ℕ
bytes_of zero v = []
bytes_of (suc n) v = v % 256 ∷ bytes_of n (v / 256)

-- the list with vs written over it from i on
unfoldable pub overwrite : ℕ → List ℕ → List ℕ → List ℕ
overwrite i vs [] = []
overwrite zero [] (x ∷ xs) = x ∷ xs
overwrite zero (v ∷ vs) (x ∷ xs) = v ∷ overwrite zero vs xs
overwrite (suc i) vs (x ∷ xs) = x ∷ overwrite i vs xs

-- ---- the heap: "Its first byte has address `base`. A word is 8 bytes, low byte first."

unfoldable pub load : Params → List ℕ → ℕ → ℕ
load p h a = load_bytes 8 h (a - p.base)

unfoldable pub store : Params → List ℕ → ℕ → ℕ → List ℕ
store p h a v = overwrite (a - p.base) (bytes_of 8 v) h

-- n bytes from the address a on made 0
unfoldable pub zeroed : Params → List ℕ → ℕ → ℕ → List ℕ
zeroed p h a n = overwrite (a - p.base) (replicate n 0) h

-- ---- marks: "The bit of heap offset 8g is bit g mod 8 of byte g / 8, lowest bit first."

unfoldable pub bit_of : ℕ → ℕ → Bool
bit_of byte i = eqb (byte / 2 ^ i % 2) 1

unfoldable pub set_bit : ℕ → ℕ → ℕ
set_bit byte i = if bit_of byte i then byte else byte + 2 ^ i

-- the g of a place
unfoldable pub mark_index : Params → ℕ → ℕ
mark_index p place = (place - p.base) / 8

-- whether a place is marked; "a place outside the heap reads unmarked"
unfoldable pub marked : Params → List ℕ → ℕ → Bool
marked p ms place = in_heap p place && bit_of (get_or ms (mark_index p place / 8) 0) (mark_index p place % 8)

unfoldable pub set_mark : Params → List ℕ → ℕ → List ℕ
set_mark p ms place =
    set ms (mark_index p place / 8) (set_bit (get_or ms (mark_index p place / 8) 0) (mark_index p place % 8))

-- "clears all marks"
unfoldable pub cleared : List ℕ → List ℕ
cleared ms = replicate (length ms) 0
