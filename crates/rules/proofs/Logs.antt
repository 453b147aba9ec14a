-- Facts about logs: first, last, all, map, and the first n of a list.
use Rattle.std.specs.Prelude.{if◌then◌else◌, Option, None, Some}
use Prim.Native.Nat.{ℕ, zero, suc, ◌+◌, ◌<◌, ◌≤◌}
use mathlib.Core.Path.{◌≡◌, refl, sym, ap, ap₂, ◌∙◌, fun_ext}
use mathlib.Core.Bool.{Bool, true, false, not, ◌&&◌}
use mathlib.Core.List.{List}
use native.Mathlib.Omega.{arith}
use lib.ListN.{length, get_or, set, length-set}
use lib.Seq.{ext_get_or, get_or-set_same, get_or-set_other}
use lib.Dec.{eqb}
use lib.Arith.{lt_of_le-ne}
use borrow.Author.Tests.{eq-eqb, ne_eqb, eqb-true, eqb-false}
use Rattle.rules.proofs.Bools.{both, and_false}
use Rattle.rules.specs.Log.{Log, ε, ◌▹◌, Among, here, ahead, ◌or_else◌, maybe, size, put, all, first, last, last_at, map, nth, front, list_from}

module _ {A : Type 0} where
  pub all_mono : (P Q : A → Bool) → ((x : A) → P x ≡ true → Q x ≡ true) → (l : Log A) → all P l ≡ true → all Q l ≡ true
  all_mono P Q h ε e = refl
  all_mono P Q h (l ▹ x) e = let (a, b) = both (all P l) (P x) e in rw (all_mono P Q h l a, h x b)

  pub first_none : (P : A → Bool) (l : Log A) → all (λ x. not (P x)) l ≡ true → first P l ≡ None
  first_none P ε e = refl
  first_none P (l ▹ x) e = let (a, b) = both (all (λ y. not (P y)) l) (not (P x)) e in rw (first_none P l a) (go (P x) b)
    where
      go : (t : Bool) → not t ≡ true → (if t then Some x else None) ≡ None
      go true e = cc
      go false e = refl

  pub first_some : (P : A → Bool) (l : Log A) (q : A) → first P l ≡ Some q → P q ≡ true
  first_some P ε q e = cc
  first_some P (l ▹ x) q e = go (first P l) (P x) refl refl e (λ d. first_some P l q d)
    where
      go : (a : Option A) (t : Bool) → first P l ≡ a → P x ≡ t → a or_else (if t then Some x else None) ≡ Some q → (first P l ≡ Some q → P q ≡ true) → P q ≡ true
      go (Some y) t d f e r = r (d ∙ e)
      go None true d f e r = let g : x ≡ q = cc in ap P (sym g) ∙ f
      go None false d f e r = cc

  pub first_ext : (P Q : A → Bool) → ((x : A) → P x ≡ Q x) → (l : Log A) → first P l ≡ first Q l
  first_ext P Q h l = ap (λ (R : A → Bool). first R l) (fun_ext h)

  -- a stronger test finds nothing where a weaker one finds nothing
  pub first_weaker : (P Q : A → Bool) → ((x : A) → Q x ≡ true → P x ≡ true) → (l : Log A) → first P l ≡ None → first Q l ≡ None
  first_weaker P Q h ε e = refl
  first_weaker P Q h (l ▹ x) e = go (first P l) (P x) (Q x) refl refl refl e (λ d. first_weaker P Q h l d)
    where
      go : (a : Option A) (s t : Bool) → first P l ≡ a → P x ≡ s → Q x ≡ t → a or_else (if s then Some x else None) ≡ None
          → (first P l ≡ None → first Q l ≡ None) → first Q l or_else (if t then Some x else None) ≡ None
      go (Some y) s t d f g e r = cc
      go None true t d f g e r = cc
      go None false true d f g e r = let z = h x g in cc
      go None false false d f g e r = rw (r d)

  -- what the weaker test finds first is what the stronger one does, if it passes that
  pub first_stronger : (P Q : A → Bool) → ((x : A) → Q x ≡ true → P x ≡ true) → (l : Log A) (q : A) → first P l ≡ Some q → Q q ≡ true → first Q l ≡ Some q
  first_stronger P Q h ε q e t = e
  first_stronger P Q h (l ▹ x) q e t = go (first P l) (P x) refl refl e (λ d. first_stronger P Q h l q d t)
    where
      go : (a : Option A) (s : Bool) → first P l ≡ a → P x ≡ s → a or_else (if s then Some x else None) ≡ Some q
          → (first P l ≡ Some q → first Q l ≡ Some q) → first Q l or_else (if Q x then Some x else None) ≡ Some q
      go (Some y) s d f e r = rw (r (d ∙ e))
      go None true d f e r = let g : x ≡ q = cc in rw (first_weaker P Q h l d, g, t)
      go None false d f e r = cc

  pub or_else_none : (a : Option A) → a or_else None ≡ a
  or_else_none None = refl
  or_else_none (Some x) = refl

  -- ---- what a log has

  pub among_put : (x : A) (l : Log A) (m : Option A) → Among x l → Among x (put l m)
  among_put x l None h = h
  among_put x l (Some y) h = ahead h

  pub among_none : (x : A) (l : Log A) → Among x l → l ≡ ε → ⊥
  among_none x l here e = let z : ◌≡◌ {A = ℕ} 0 1 = cc in omega arith
  among_none x l (ahead h) e = let z : ◌≡◌ {A = ℕ} 0 1 = cc in omega arith

  -- the last, or one ahead of it
  pub among_split : (C : Type 0) (l : Log A) (y x : A) → Among x (l ▹ y) → (x ≡ y → C) → (Among x l → C) → C
  among_split C l y x here f g = f refl
  among_split C l y x (ahead h) f g = g h

  pub all_among : (P : A → Bool) (l : Log A) (x : A) → Among x l → all P l ≡ true → P x ≡ true
  all_among P l x h a = go x l h a
    where
      go : (x : A) (l : Log A) → Among x l → all P l ≡ true → P x ≡ true
      go x l (here {l = k}) a = (both (all P k) (P x) a).1
      go x l (ahead {l = k} {y = y} h) a = go x k h (both (all P k) (P y) a).0

  -- nothing is found only where nothing passes
  pub none_first : (P : A → Bool) (l : Log A) → first P l ≡ None → all (λ x. not (P x)) l ≡ true
  none_first P ε e = refl
  none_first P (l ▹ x) e = go (first P l) (P x) refl e (none_first P l)
    where
      go : (a : Option A) (b : Bool) → first P l ≡ a → a or_else (if b then Some x else None) ≡ None → (first P l ≡ None → all (λ y. not (P y)) l ≡ true)
          → all (λ y. not (P y)) l && not b ≡ true
      go (Some y) b d e r = cc
      go None true d e r = cc
      go None false d e r = rw (r d)

  -- ---- a test that all of a log pass, of what is found in it

  pub all-put : (P : A → Bool) (l : Log A) (m : Option A) → all P l ≡ true → maybe true P m ≡ true → all P (put l m) ≡ true
  all-put P l None a b = a
  all-put P l (Some x) a b = rw (a, b)

  pub first-all : (P Q : A → Bool) (l : Log A) → all Q l ≡ true → maybe true Q (first P l) ≡ true
  first-all P Q ε a = refl
  first-all P Q (l ▹ x) a = let (b, c) = both (all Q l) (Q x) a in go (first P l) (P x) (first-all P Q l b) c
    where
      go : (h : Option A) (t : Bool) → maybe true Q h ≡ true → Q x ≡ true → maybe true Q (h or_else (if t then Some x else None)) ≡ true
      go None true b c = c
      go None false b c = refl
      go (Some y) t b c = b

  pub last-all : (Q : A → Bool) (l : Log A) → all Q l ≡ true → maybe true Q (last l) ≡ true
  last-all Q ε h = refl
  last-all Q (l ▹ x) h = (both (all Q l) (Q x) h).1

  pub last_at_all : (Q : A → Bool) (P : Log A → A → Bool) (l : Log A) → all Q l ≡ true → maybe true Q (last_at P l) ≡ true
  last_at_all Q P ε h = refl
  last_at_all Q P (l ▹ x) h = let (a, b) = both (all Q l) (Q x) h in go (P l x) (last_at_all Q P l a) b
    where
      go : (t : Bool) → maybe true Q (last_at P l) ≡ true → Q x ≡ true → maybe true Q (if t then Some x else last_at P l) ≡ true
      go true r b = b
      go false r b = r

  -- ---- the first n of a list

  pub front_ext : (d : A) (n : ℕ) (xs ys : List A) → ((i : ℕ) → i < n → get_or xs i d ≡ get_or ys i d) → front d n xs ≡ front d n ys
  unfolding front
  front_ext d zero xs ys h = refl
  front_ext d (suc n) xs ys h = ap₂ ◌▹◌ (front_ext d n xs ys (λ i l. h i (omega arith))) (h n (omega arith))

  pub size-front : (d : A) (n : ℕ) (xs : List A) → size (front d n xs) ≡ n
  unfolding front
  size-front d zero xs = refl
  size-front d (suc n) xs = ap suc (size-front d n xs)

  pub nth_after : (d : A) (l : Log A) (i : ℕ) → size l ≤ i → nth d l i ≡ d
  unfolding nth
  nth_after d ε i h = refl
  nth_after d (l ▹ x) i h = rw (ne_eqb i (size l) (omega arith)) (nth_after d l i (omega arith))

  pub front-all : (Q : A → Bool) (d : A) (n : ℕ) (xs : List A) → ((i : ℕ) → Q (get_or xs i d) ≡ true) → all Q (front d n xs) ≡ true
  unfolding front
  front-all Q d zero xs h = refl
  front-all Q d (suc n) xs h = rw (front-all Q d n xs h, h n)

  pub front_no : (Q : A → Bool) (d : A) (n : ℕ) (xs : List A) (i : ℕ) → i < n → Q (get_or xs i d) ≡ false → all Q (front d n xs) ≡ false
  unfolding front
  front_no Q d zero xs i l e = absurd (omega arith)
  front_no Q d (suc n) xs i l e = go (eqb i n) refl (λ m. front_no Q d n xs i m e)
    where
      go : (b : Bool) → eqb i n ≡ b → (i < n → all Q (front d n xs) ≡ false) → all Q (front d n xs) && Q (get_or xs n d) ≡ false
      go true q r = ap (λ (x : Bool). all Q (front d n xs) && x) (ap (λ (k : ℕ). Q (get_or xs k d)) (sym (eqb-true i n q)) ∙ e) ∙ and_false (all Q (front d n xs))
      go false q r = rw (r (lt_of_le-ne (omega arith) (eqb-false i n q)))

  pub nth-front : (d : A) (n : ℕ) (xs : List A) (i : ℕ) → i < n → nth d (front d n xs) i ≡ get_or xs i d
  unfolding front nth
  nth-front d zero xs i h = let c : ⊥ = omega arith in absurd c
  nth-front d (suc n) xs i h = go (eqb i (size (front d n xs))) refl (nth-front d n xs i)
    where
      go : (b : Bool) → eqb i (size (front d n xs)) ≡ b → (i < n → nth d (front d n xs) i ≡ get_or xs i d)
          → (if b then get_or xs n d else nth d (front d n xs) i) ≡ get_or xs i d
      go true e r = let q = eqb-true i (size (front d n xs)) e in rw (q, size-front d n xs)
      go false e r =
          let q = eqb-false i (size (front d n xs)) e in
          let s = size-front d n xs in
          r (lt_of_le-ne (omega arith) (λ z. q (omega arith)))

  -- the log that reads each place of l is l
  pub front-nth : (d : A) (l : Log A) (xs : List A) → ((i : ℕ) → i < size l → get_or xs i d ≡ nth d l i) → front d (size l) xs ≡ l
  unfolding front nth
  front-nth d ε xs h = refl
  front-nth d (l ▹ x) xs h =
      ap₂ ◌▹◌ (front-nth d l xs (λ i m. h i (omega arith) ∙ rw (ne_eqb i (size l) (omega arith))))
      (h (size l) (omega arith) ∙ rw (eq-eqb (size l) (size l) refl))

  -- ---- f at each of the n numbers from i on

  pub length_list : (i n : ℕ) (f : ℕ → A) → length (list_from i n f) ≡ n
  length_list i zero f = refl
  length_list i (suc n) f = ap suc (length_list (suc i) n f)

  pub list_from_lem : (i n : ℕ) (f : ℕ → A) (j : ℕ) (d : A) → j < n → get_or (list_from i n f) j d ≡ f (i + j)
  list_from_lem i zero f j d l = absurd (omega arith)
  list_from_lem i (suc n) f zero d l = ap f (omega arith)
  list_from_lem i (suc n) f (suc j) d l = list_from_lem (suc i) n f j d (omega arith) ∙ ap f (omega arith)

  pub list_at : (n : ℕ) (f : ℕ → A) (j : ℕ) (d : A) → j < n → get_or (list_from 0 n f) j d ≡ f j
  list_at n f j d l = list_from_lem 0 n f j d l ∙ ap f (omega arith)

  -- the list that reads each place of xs is xs
  pub list_is : (d : A) (n : ℕ) (f : ℕ → A) (xs : List A) → length xs ≡ n → ((i : ℕ) → i < n → f i ≡ get_or xs i d) → list_from 0 n f ≡ xs
  list_is d n f xs len h =
      let m = length_list 0 n f in
      ext_get_or d (list_from 0 n f) xs (omega arith) (λ i l. list_at n f i d (omega arith) ∙ h i (omega arith))

  pub list_ext : (d : A) (n : ℕ) (f g : ℕ → A) → ((i : ℕ) → i < n → f i ≡ g i) → list_from 0 n f ≡ list_from 0 n g
  list_ext d n f g h = list_is d n f (list_from 0 n g) (length_list 0 n g) (λ i l. h i l ∙ sym (list_at n g i d l))

  -- g is f, but for k
  pub list_set : (n k : ℕ) (f g : ℕ → A) (v : A) → k < n → g k ≡ v → ((i : ℕ) → (i ≡ k → ⊥) → g i ≡ f i) → list_from 0 n g ≡ set (list_from 0 n f) k v
  list_set n k f g v l e h = list_is v n g (set (list_from 0 n f) k v) (length-set (list_from 0 n f) k v ∙ length_list 0 n f) (λ i m. go i m (eqb i k) refl)
    where
      go : (i : ℕ) → i < n → (b : Bool) → eqb i k ≡ b → g i ≡ get_or (set (list_from 0 n f) k v) i v
      go i m true q =
          let r = eqb-true i k q in
          let s = length_list 0 n f in
          rw (r, get_or-set_same (list_from 0 n f) k v v (omega arith)) e
      go i m false q =
          let r = eqb-false i k q in
          rw (get_or-set_other (list_from 0 n f) k i v v r, list_at n f i v m) (h i r)

module _ {A B : Type 0} where
  pub size-map : (f : A → B) (l : Log A) → size (map f l) ≡ size l
  size-map f ε = refl
  size-map f (l ▹ x) = ap suc (size-map f l)

  pub all_map : (Q : B → Bool) (f : A → B) (l : Log A) → all (λ x. Q (f x)) l ≡ true → all Q (map f l) ≡ true
  all_map Q f ε h = refl
  all_map Q f (l ▹ x) h = let (a, b) = both (all (λ y. Q (f y)) l) (Q (f x)) h in rw (all_map Q f l a, b)

  pub map_same : {C : Type 0} (f : A → B) (g : B → C) (l k : Log A) → map f l ≡ map f k → map (λ x. g (f x)) l ≡ map (λ x. g (f x)) k
  map_same {C} f g l k e = sym (twice l) ∙ ap (λ (m : Log B). map g m) e ∙ twice k
    where
      twice : (l : Log A) → map g (map f l) ≡ map (λ x. g (f x)) l
      twice ε = refl
      twice (l ▹ x) = ap (λ (m : Log C). m ▹ g (f x)) (twice l)
