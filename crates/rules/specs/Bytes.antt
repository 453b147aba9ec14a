-- Numbers in bytes. 01: "all fields are little-endian, signed ones in two's complement."
use Rattle.std.specs.Prelude.{ℕ, zero, suc, ◌+◌, ◌*◌, ◌-◌, ◌/◌, ◌%◌, ◌^◌, Bool, true, ◌&&◌, List, [], ◌∷◌, ◌++◌, take, drop, replicate, ℤ, pos, negsuc, ltb, eqb, if◌then◌else◌}
use Rattle.std.specs.Int.Signed.{mag}

abbrev pub Bytes : Type 0
Bytes = List ℕ

-- each number of the list is a byte
abbrev pub are_bytes : Bytes → Bool
are_bytes [] = true
are_bytes (b ∷ bs) = ltb b 256 && are_bytes bs

unfoldable pub zeros : ℕ → Bytes
zeros n = replicate n 0

abbrev pub all_zero : Bytes → Bool
all_zero [] = true
all_zero (b ∷ bs) = eqb b 0 && all_zero bs

abbrev pub concat : List Bytes → Bytes
concat [] = []
concat (f ∷ fs) = f ++ concat fs

-- ---- reading

abbrev pub little : Bytes → ℕ
little [] = 0
little (b ∷ bs) = b + 256 * little bs

-- the number whose two's complement in w bits is n
unfoldable pub signed : ℕ → ℕ → ℤ
signed w n = if ltb n (2 ^ (w - 1)) then pos n else negsuc (2 ^ w - 1 - n)

-- the number in the n bytes from i on
unfoldable pub unsigned_at : Bytes → ℕ → ℕ → ℕ
unsigned_at bs i n = little (take n (drop i bs))

unfoldable pub signed_at : Bytes → ℕ → ℕ → ℤ
signed_at bs i n = signed (8 * n) (unsigned_at bs i n)

-- ---- writing

-- n bytes of v, the low one first
unfoldable pub bytes : ℕ → ℕ → Bytes
bytes zero v = []
bytes (suc n) v = v % 256 ∷ bytes n (v / 256)

-- two's complement in w bits
unfoldable pub word : ℕ → ℤ → ℕ
word w (pos n) = n
word w (negsuc n) = 2 ^ w - 1 - n

abbrev pub signed_bytes : ℕ → ℤ → Bytes
signed_bytes n z = bytes n (word (8 * n) z)

-- ---- what fits into n bytes

abbrev pub fits_unsigned : ℕ → ℕ → Bool
fits_unsigned n v = ltb v (256 ^ n)

abbrev pub fits_signed : ℕ → ℤ → Bool
fits_signed n z = ltb (mag z) (2 ^ (8 * n - 1))

-- a time fits an i64
abbrev pub fits : ℤ → Bool
fits z = fits_signed 8 z
