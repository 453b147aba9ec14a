-- How a journal splits into commands.
use Rattle.std.specs.Prelude.{if◌then◌else◌}
use Prim.Native.Nat.{ℕ, zero, suc, ◌≤◌, ◌<◌}
use mathlib.Core.Path.{◌≡◌, refl, sym, ap, ◌∙◌}
use mathlib.Core.Bool.{Bool, true, false, ◌&&◌}
use mathlib.Core.List.{List, [], ◌∷◌, ◌++◌, append-nil, append_assoc}
use native.Mathlib.Omega.{arith}
use lib.Dec.{eqb}
use lib.ListN.{length, take, drop, length-drop, drop_of_length-le}
use lib.Seq.{take_all, take_at, drop_at}
use borrow.Author.Tests.{lt-ltb, le-ltb, eqb-true}
use Rattle.rules.specs.Log.{Log, ε, ◌▹◌, puts}
use Rattle.rules.specs.Bytes.{Bytes, concat}
use Rattle.rules.specs.Entries.{width}
use Rattle.rules.specs.Journal.{is_known, commands_in, journal_entries, are_commands}
use Rattle.rules.proofs.Bools.{both}

-- ---- widths

-- a command's width, or 1
pub record Wide (w : ℕ) : Type 0 where
  pub some : 0 < w
  pub most : w ≤ 46
  pub least : 1 < w → 10 ≤ w

pub wide : (b : ℕ) → Wide (width b)
wide b = choose (eqb b 1) w38 (choose (eqb b 2) w46 (choose (eqb b 3) w10 (choose (eqb b 4) w10 (choose (eqb b 6) w11 w1))))
  where
    choose : (t : Bool) {v w : ℕ} → Wide v → Wide w → Wide (if t then v else w)
    choose true p q = p
    choose false p q = q

    w38 : Wide 38
    w38 = record { some = omega arith; most = omega arith; least = λ h. omega arith }

    w46 : Wide 46
    w46 = record { some = omega arith; most = omega arith; least = λ h. omega arith }

    w10 : Wide 10
    w10 = record { some = omega arith; most = omega arith; least = λ h. omega arith }

    w11 : Wide 11
    w11 = record { some = omega arith; most = omega arith; least = λ h. omega arith }

    w1 : Wide 1
    w1 = record { some = omega arith; most = omega arith; least = λ h. omega arith }

-- ---- its commands

pub none_in : (n : ℕ) → commands_in n [] ≡ []
unfolding commands_in
none_in zero = refl
none_in (suc n) = refl

-- how many bytes are allowed for says nothing, where they are enough
enough : (n m : ℕ) (j : Bytes) → length j ≤ n → length j ≤ m → commands_in n j ≡ commands_in m j
unfolding commands_in
enough zero m [] h k = sym (none_in m)
enough zero m (b ∷ bs) h k = absurd (omega arith)
enough (suc n) m [] h k = sym (none_in m)
enough (suc n) zero (b ∷ bs) h k = absurd (omega arith)
enough (suc n) (suc m) (b ∷ bs) h k =
    let j = b ∷ bs in
    let s = length-drop (width b) j in
    let p = (wide b).some in
    ap (λ (es : List Bytes). take (width b) j ∷ (if is_known b then es else []))
    (enough n m (drop (width b) j) (omega (arith, s, p)) (omega (arith, s, p)))

abbrev pub commands_at : Bytes → List Bytes
commands_at j = commands_in (length j) j

pub first-command : (b : ℕ) (bs : Bytes) → commands_at (b ∷ bs) ≡ take (width b) (b ∷ bs) ∷ (if is_known b then commands_at (drop (width b) (b ∷ bs)) else [])
unfolding commands_in
first-command b bs =
    let j = b ∷ bs in
    let s = length-drop (width b) j in
    ap (λ (es : List Bytes). take (width b) j ∷ (if is_known b then es else []))
    (enough (length bs) (length (drop (width b) j)) (drop (width b) j) (omega (arith, s, (wide b).some)) (omega arith))

-- ---- commands, and then what follows them

ahead : (es : List Bytes) (rest : Bytes) → are_commands es ≡ true → commands_at (concat es ++ rest) ≡ es ++ commands_at rest
ahead [] rest h = refl
ahead ([] ∷ es) rest h = cc
ahead ((b ∷ bs) ∷ es) rest h =
    let (k, r) = both (is_known b) (eqb (length (b ∷ bs)) (width b) && are_commands es) h in
    let (w, on) = both (eqb (length (b ∷ bs)) (width b)) (are_commands es) r in
    let n : length (b ∷ bs) ≡ width b = eqb-true (length (b ∷ bs)) (width b) w in
    let e = b ∷ bs in
    let more = concat es ++ rest in
    ap commands_at (append_assoc e (concat es) rest)
    ∙ first-command b (bs ++ more)
    ∙ rw (k, take_at e more (width b) n, drop_at e more (width b) n) (ap (e ∷◌) (ahead es rest on))

puts-last : (l : Log Bytes) (es : List Bytes) (e : Bytes) → puts l (es ++ (e ∷ [])) ≡ puts l es ▹ e
puts-last l [] e = refl
puts-last l (x ∷ es) e = puts-last (l ▹ x) es e

module _ (es : List Bytes) (commands : are_commands es ≡ true) where
  pub commands_back : journal_entries (concat es) ≡ puts ε es
  unfolding journal_entries commands_in
  commands_back = ap (λ (j : Bytes). puts ε (commands_at j)) (sym (append-nil (concat es))) ∙ ap (puts ε) (ahead es [] commands ∙ append-nil es)

  pub unknown-last : (b : ℕ) (more : Bytes) → width b ≡ 1 → journal_entries (concat es ++ (b ∷ more)) ≡ puts ε es ▹ (b ∷ [])
  unfolding journal_entries
  unknown-last b more one =
      let unknown : is_known b ≡ false = le-ltb 1 (width b) (omega (arith, one)) in
      let last : commands_at (b ∷ more) ≡ (b ∷ []) ∷ [] = first-command b more ∙ rw (unknown, one) in
      ap (puts ε) (ahead es (b ∷ more) commands ∙ ap (es ++◌) last) ∙ puts-last ε es (b ∷ [])

  pub tail-last : (b : ℕ) (bs : Bytes) → length (b ∷ bs) < width b → journal_entries (concat es ++ (b ∷ bs)) ≡ puts ε es ▹ (b ∷ bs)
  unfolding journal_entries
  tail-last b bs h =
      let t = b ∷ bs in
      let last : commands_at t ≡ t ∷ [] =
      first-command b bs
      ∙ rw (lt-ltb 1 (width b) (omega arith), take_all (width b) t (omega arith), drop_of_length-le t {i = width b} (omega arith)) (ap (t ∷◌) (none_in 0)) in
      ap (puts ε) (ahead es t commands ∙ ap (es ++◌) last) ∙ puts-last ε es t
