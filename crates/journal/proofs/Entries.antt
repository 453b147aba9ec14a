-- The entries of a part: its first width, and where it goes on.
use Rattle.std.specs.Prelude.{if◌then◌else◌, Option, Some, None}
use Rattle.std.specs.Bool.{then_some}
use Prim.Native.Nat.{ℕ, zero, suc, ◌+◌, ◌*◌, ◌≤◌, ◌<◌}
use mathlib.Core.Path.{◌≡◌, refl, sym, ap, ◌∙◌}
use mathlib.Core.Bool.{Bool, true, false}
use mathlib.Core.List.{List, [], ◌∷◌, ◌++◌}
use native.Mathlib.Omega.{arith}
use lib.Dec.{leb, eqb}
use lib.ListN.{length, get_or, take, drop, length-append, length-drop}
use lib.Seq.{length-take-le, take-append-le, drop-append-le, drop-drop}
use borrow.Author.Tests.{leb-true, leb-false, le-leb, lt-leb, eqb-true, eqb-false, ne_eqb}
use Rattle.rules.specs.Bytes.{Bytes, concat}
use Rattle.rules.specs.Entries.{width}
use Rattle.rules.proofs.Bools.{not_both}
use Rattle.rules.proofs.Journal.{Wide, wide}
use Rattle.journal.specs.Split.{first_width, ends, entries_in, entries_at}
use Rattle.journal.specs.Feed.{ends_in}

-- ---- the first entry

pub first_none : (last : Bool) (j : Bytes) → length j ≡ 0 → first_width last j ≡ None
unfolding first_width
first_none last [] e = refl
first_none last (b ∷ bs) e = absurd (omega arith)

pub first_some : (last : Bool) (j : Bytes) → 0 < length j
    → first_width last j ≡ (if leb (width (get_or j 0 0)) (length j) then Some (width (get_or j 0 0)) else if last then Some (length j) else None)
unfolding first_width
first_some last [] h = absurd (omega arith)
first_some last (b ∷ bs) h = refl

-- the same by its length
pub first_whole : (last : Bool) (j : Bytes) → 0 < length j → width (get_or j 0 0) ≤ length j → first_width last j ≡ Some (width (get_or j 0 0))
first_whole last j h w = rw (first_some last j h, le-leb (width (get_or j 0 0)) (length j) w)

pub first_tail : (last : Bool) (j : Bytes) → 0 < length j → length j < width (get_or j 0 0) → first_width last j ≡ then_some last (length j)
first_tail last j h w = first_some last j h ∙ rw (lt-leb (width (get_or j 0 0)) (length j) w) (then_some_is last)
  where
    then_some_is : (b : Bool) → (if b then Some (length j) else None) ≡ then_some b (length j)
    then_some_is true = refl
    then_some_is false = refl

-- it is a whole command or a short tail
pub record First (j : Bytes) (w : ℕ) : Type 0 where
  pub some : 0 < w
  pub within : w ≤ length j
  pub least : 1 < w → w < length j → 10 ≤ w

pub first : (last : Bool) (j : Bytes) {w : ℕ} → first_width last j ≡ Some w → First j w
unfolding first_width
first last [] e = cc
first last (b ∷ bs) {w} e = go (leb (width b) (length (b ∷ bs))) last refl e
  where
    p : Wide (width b)
    p = wide b

    go : (t last : Bool) → leb (width b) (length (b ∷ bs)) ≡ t
        → (if t then Some (width b) else if last then Some (length (b ∷ bs)) else None) ≡ Some w → First (b ∷ bs) w
    go true last e f =
        let s : width b ≡ w = cc in
        record { some = omega (arith, p.some); within = omega (arith, leb-true (width b) (length (b ∷ bs)) e); least = λ g h. omega (arith, p.least) }
    go false true e f =
        let s : length (b ∷ bs) ≡ w = cc in
        record { some = omega arith; within = omega arith; least = λ g h. omega arith }
    go false false e f = cc

-- or there is none yet, as the part is shorter than a command
none-short : (j : Bytes) → first_width false j ≡ None → length j < 46
unfolding first_width
none-short [] e = omega arith
none-short (b ∷ bs) e = go (leb (width b) (length (b ∷ bs))) refl e
  where
    go : (t : Bool) → leb (width b) (length (b ∷ bs)) ≡ t → ◌≡◌ {A = Option ℕ} (if t then Some (width b) else None) None → length (b ∷ bs) < 46
    go true f g = cc
    go false f g = omega (arith, (wide b).most, leb-false (width b) (length (b ∷ bs)) f)

-- it stays when bytes follow
first-append : (last : Bool) (j more : Bytes) {w : ℕ} → first_width false j ≡ Some w → first_width last (j ++ more) ≡ Some w
unfolding first_width
first-append last [] more e = cc
first-append last (b ∷ bs) more {w} e = go (leb (width b) (length (b ∷ bs))) refl e
  where
    go : (t : Bool) → leb (width b) (length (b ∷ bs)) ≡ t → (if t then Some (width b) else None) ≡ Some w
        → (if leb (width b) (length (b ∷ bs ++ more)) then Some (width b) else if last then Some (length (b ∷ bs ++ more)) else None) ≡ Some w
    go true f g =
        rw (le-leb (width b) (length (b ∷ bs ++ more)) (omega (arith, leb-true (width b) (length (b ∷ bs)) f, length-append bs more))) g
    go false f g = cc

-- ---- the entries, one after the other

pub data Split (last : Bool) : Bytes → List Bytes → Type 0 where
  none : {j : Bytes} → first_width last j ≡ None → Split last j []
  ending : {j : Bytes} → first_width last j ≡ Some 1 → Split last j (take 1 j ∷ [])
  more : {j : Bytes} {es : List Bytes} (w : ℕ) → first_width last j ≡ Some w → 1 < w → Split last (drop w j) es → Split last j (take w j ∷ es)

splits : (last : Bool) (n : ℕ) (j : Bytes) → length j ≤ n → Split last j (entries_in last n j)
unfolding entries_in
splits last zero j h = none (first_none last j (omega arith))
splits last (suc n) j h = go (first_width last j) refl (λ w l. splits last n (drop w j) (omega (arith, length-drop w j)))
  where
    next : (w : ℕ) (t : Bool) → first_width last j ≡ Some w → eqb w 1 ≡ t → Split last (drop w j) (entries_in last n (drop w j))
        → Split last j (take w j ∷ (if t then [] else entries_in last n (drop w j)))
    next w true f q on = let e : w ≡ 1 = eqb-true w 1 q in rw e (ending (rw e at f))
    next w false f q on = let l : 1 < w = omega (arith, (first last j f).some, eqb-false w 1 q) in more w f l on

    go : (o : Option ℕ) → first_width last j ≡ o → ((w : ℕ) → 0 < w → Split last (drop w j) (entries_in last n (drop w j)))
        → Split last j (elim o [ None ↦ [] | Some w ↦ take w j ∷ (if ends w then [] else entries_in last n (drop w j)) ])
    go None f on = none f
    go (Some w) f on = next w (eqb w 1) f refl (on w (first last j f).some)

pub split : (last : Bool) (j : Bytes) → Split last j (entries_at last j)
split last j = splits last (length j) j (omega arith)

entries_are : {last : Bool} {j : Bytes} {es : List Bytes} → Split last j es → (n : ℕ) → length j ≤ n → entries_in last n j ≡ es
unfolding entries_in
entries_are (none p) zero h = refl
entries_are (none p) (suc n) h = rw (p, entries_in)
entries_are {last} {j} (ending p) zero h = absurd (omega (arith, (first last j p).within))
entries_are (ending p) (suc n) h = rw (p, entries_in)
entries_are {last} {j} (more w p l s) zero h = absurd (omega (arith, (first last j p).within))
entries_are {last} {j} (more w p l s) (suc n) h =
    rw (p, entries_in, ne_eqb w 1 (λ e. omega arith), entries_are s n (omega (arith, length-drop w j)))

pub unique : {last : Bool} {j : Bytes} {es : List Bytes} → Split last j es → entries_at last j ≡ es
unique {j} s = entries_are s (length j) (omega arith)

-- ---- what is known of them

-- each takes its own bytes
pub step : (last : Bool) (j : Bytes) (es : List Bytes) {w : ℕ} → first_width last j ≡ Some w → length (concat (take w j ∷ es)) ≡ w + length (concat es)
step last j es {w} p = length-append (take w j) (concat es) ∙ ap (◌+ length (concat es)) (length-take-le w j (omega (arith, (first last j p).within)))

pub taken_within : {last : Bool} {j : Bytes} {es : List Bytes} → Split last j es → length (concat es) ≤ length j
taken_within (none p) = omega arith
taken_within {last} {j} (ending p) = omega (arith, step last j [] p, (first last j p).within)
taken_within {last} {j} (more {es = es} w p l s) = omega (arith, step last j es p, taken_within s, length-drop w j, (first last j p).within)

-- each but the last has ten bytes
pub count_within : {last : Bool} {j : Bytes} {es : List Bytes} → Split last j es → 10 * length es ≤ length j + 9
count_within (none p) = omega arith
count_within {last} {j} (ending p) = omega (arith, (first last j p).within)
count_within {last} {j} (more {es = es} w p l s) = go (leb (length j) w) refl (count_within s)
  where
    go : (t : Bool) → leb (length j) w ≡ t → 10 * length es ≤ length (drop w j) + 9 → 10 * suc (length es) ≤ length j + 9
    go true e h = omega (arith, leb-true (length j) w e, length-drop w j, (first last j p).within)
    go false e h =
        let b : w < length j = leb-false (length j) w e in
        let m : 10 ≤ w = (first last j p).least l b in
        omega (arith, length-drop w j)

-- only one of one byte is the end
ends-one : (last : Bool) (j : Bytes) → first_width last j ≡ Some 1 → ends_in (take 1 j ∷ []) ≡ true
ends-one last j p = rw (length-take-le 1 j (omega (arith, (first last j p).within)))

goes_on : (last : Bool) (j : Bytes) (es : List Bytes) {w : ℕ} → first_width last j ≡ Some w → 1 < w → ends_in (take w j ∷ es) ≡ ends_in es
goes_on last j es {w} p l = rw (length-take-le w j (omega (arith, (first last j p).within)), ne_eqb w 1 (λ e. omega arith))

-- what they leave is shorter than a command, where the journal goes on
pub left-short : {j : Bytes} {es : List Bytes} → Split false j es → ends_in es ≡ false → length (drop (length (concat es)) j) < 46
left-short {j} (none p) e = none-short j p
left-short {j} (ending p) e = absurd (not_both (ends-one false j p) e)
left-short {j} (more {es = es} w p l s) e =
    rw (step false j es p, ← drop-drop (length (concat es)) w j)
    (left-short s (sym (goes_on false j es p l) ∙ e))

-- ---- a part, and what follows

grow : {last : Bool} (a m : Bytes) {es : List Bytes} {w : ℕ} → first_width false a ≡ Some w → 1 < w → Split last (drop w a ++ m) es → Split last (a ++ m) (take w a ∷ es)
grow {last} a m {es} {w} p l s =
    let h : w ≤ length a = omega (arith, (first false a p).within) in
    let t : Split last (drop w (a ++ m)) es = rw (drop-append-le w a m h) s in
    rw (← take-append-le w a m h) (more w (first-append last a m p) l t)

pub split_ended : {last : Bool} {a : Bytes} {es : List Bytes} (m : Bytes) → Split false a es → ends_in es ≡ true → Split last (a ++ m) es
split_ended m (none p) e = absurd (not_both e refl)
split_ended {last} {a} m (ending p) e =
    rw (← take-append-le 1 a m (omega (arith, (first false a p).within))) (ending (first-append last a m p))
split_ended {a = a} m (more {es = es} w p l s) e = grow a m p l (split_ended m s (sym (goes_on false a es p l) ∙ e))

pub split_append : {last : Bool} {a : Bytes} {es fs : List Bytes} (m : Bytes) → Split false a es → ends_in es ≡ false
    → Split last (drop (length (concat es)) a ++ m) fs → Split last (a ++ m) (es ++ fs)
split_append m (none p) e s = s
split_append {a = a} m (ending p) e s = absurd (not_both (ends-one false a p) e)
split_append {a = a} m (more {es = es} w p l r) e s =
    grow a m p l
    (split_append m r (sym (goes_on false a es p l) ∙ e)
    (rw (drop-drop (length (concat es)) w a, ← step false a es p) s))
