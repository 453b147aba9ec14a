-- Choices, and logs: lists that grow at their end. `l ▹ x` is the log l and then x, so l is what came ahead of x.
use Rattle.std.specs.Prelude.{ℕ, zero, suc, ◌+◌, Bool, true, false, ◌&&◌, List, [], ◌∷◌, get_or, eqb, if◌then◌else◌, Option, None, Some}

-- every test of a list passes
abbrev pub every : List Bool → Bool
every [] = true
every (b ∷ bs) = b && every bs

-- ---- optional values

module _ {A : Type 0} where
  infixl 25 ◌or_else◌
  abbrev pub ◌or_else◌ : Option A → Option A → Option A
  None or_else b = b
  Some a or_else b = Some a

  abbrev pub is_some : Option A → Bool
  is_some None = false
  is_some (Some a) = true

-- f of the value, or b where there is none
abbrev pub maybe : {A B : Type 0} → B → (A → B) → Option A → B
maybe b f None = b
maybe b f (Some a) = f a

-- ---- logs

infixl 20 ◌▹◌
pub data Log (A : Type 0) : Type 0 where
  ε : Log A
  ◌▹◌ : Log A → A → Log A

-- x is one of the log
pub data Among {A : Type 0} (x : A) : Log A → Type 0 where
  here : {l : Log A} → Among x (l ▹ x)
  ahead : {l : Log A} {y : A} → Among x l → Among x (l ▹ y)

module _ {A : Type 0} where
  abbrev pub size : Log A → ℕ
  size ε = 0
  size (l ▹ x) = suc (size l)

  -- l, and then the value if there is one
  abbrev pub put : Log A → Option A → Log A
  put l None = l
  put l (Some x) = l ▹ x

  -- l, and then those of a list
  abbrev pub puts : Log A → List A → Log A
  puts l [] = l
  puts l (x ∷ xs) = puts (l ▹ x) xs

  -- every one of l passes the test
  abbrev pub all : (A → Bool) → Log A → Bool
  all P ε = true
  all P (l ▹ x) = all P l && P x

  -- the first of l that passes the test
  abbrev pub first : (A → Bool) → Log A → Option A
  first P ε = None
  first P (l ▹ x) = first P l or_else (if P x then Some x else None)

  abbrev pub last : Log A → Option A
  last ε = None
  last (l ▹ x) = Some x

  -- the last of l that passes the test, which sees what came ahead
  abbrev pub last_at : (Log A → A → Bool) → Log A → Option A
  last_at P ε = None
  last_at P (l ▹ x) = if P l x then Some x else last_at P l

  -- the i-th of l, from 0 on, or d where there is none
  unfoldable pub nth : A → Log A → ℕ → A
  nth d ε i = d
  nth d (l ▹ x) i = if eqb i (size l) then x else nth d l i

  -- the first n of a list, with d where it has fewer
  unfoldable pub front : A → ℕ → List A → Log A
  front d zero xs = ε
  front d (suc n) xs = front d n xs ▹ get_or xs n d

module _ {A B : Type 0} where
  abbrev pub map : (A → B) → Log A → Log B
  map f ε = ε
  map f (l ▹ x) = map f l ▹ f x

  -- what f finds first, f seeing what came ahead
  abbrev pub first_at : (Log A → A → Option B) → Log A → Option B
  first_at f ε = None
  first_at f (l ▹ x) = first_at f l or_else f l x

  -- all that f finds, f seeing what came ahead
  abbrev pub collect : (Log A → A → Option B) → Log A → Log B
  collect f ε = ε
  collect f (l ▹ x) = put (collect f l) (f l x)

abbrev pub total : Log ℕ → ℕ
total ε = 0
total (l ▹ x) = total l + x

-- ---- the numbers below n

-- the sum of f i over i < n
abbrev pub Σ< : ℕ → (ℕ → ℕ) → ℕ
Σ< zero f = 0
Σ< (suc n) f = Σ< n f + f n

-- every i < n passes the test
abbrev pub all< : ℕ → (ℕ → Bool) → Bool
all< zero P = true
all< (suc n) P = all< n P && P n

-- the first i < n that passes the test
abbrev pub find : ℕ → (ℕ → Bool) → Option ℕ
find zero P = None
find (suc n) P = find n P or_else (if P n then Some n else None)

-- f at each of the n numbers from i on
abbrev pub list_from : {A : Type 0} → ℕ → ℕ → (ℕ → A) → List A
list_from i zero f = []
list_from i (suc n) f = f i ∷ list_from (suc i) n f

-- what f has at each i < n, in order
abbrev pub up_to : {A : Type 0} → ℕ → (ℕ → Option A) → Log A
up_to zero f = ε
up_to (suc n) f = put (up_to n f) (f n)
