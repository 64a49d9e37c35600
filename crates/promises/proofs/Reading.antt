-- Reading finds what the words say: it refuses with (n, p) exactly where Fault says so, and serves exactly the readable texts.
-- Why: each test tells its case, line by line; after sound lines the search stands where the first bad line is. Assumes nothing.
use mathlib.Core.Path.{◌≡◌, refl, sym, ap, ◌∙◌, subst}
use mathlib.Core.Logic.{◌⊎◌, inl, inr, ◌≢◌, ◌↔◌, ⊎_elim}
use mathlib.Core.Bool.{Bool, true, not, ◌&&◌}
use mathlib.Core.List.{List, [], ◌∷◌, ◌++◌, append-nil, append_assoc, Memᴰ as In}
use mathlib.Core.Option.{Option, none, some, none-ne-some}
use Prim.Native.Nat.{ℕ, zero, suc, ◌*◌, ◌≤◌, ◌<◌}
use native.Mathlib.Omega.{arith}
use lib.IntN.{ℤ, pos, neg_ℤ}
use lib.ListN.{length, get_or}
use lib.Dec.{ltb, leb, eqb}
use borrow.Author.Tests.{eq-eqb, eqb-true}
use Rattle.lists.specs.Lists.{pick, any}
use Rattle.lists.proofs.Tests.{contra, case}
use Rattle.lists.proofs.Members.{get_or-in}
use Rattle.lists.proofs.Distinct.{in_place}
use Rattle.lists.proofs.Tells.{Tells, tells_true, tells_false, tells_holds, tells_lt, tells_le, tells_eq, tells_never, tells_always, tells_not, tells_or, tells_and, tells_any}
use Rattle.lists.proofs.Firsts.{first_in, in_first, tells_first}
use Rattle.promises.specs.Answer.{served, refused, Served, unless}
use Rattle.promises.specs.Text.{Kind, Part, go, stop, amp, opens, Line, rig, ord, begins, continues, other, Monitor, monitors, latest, states_of, events_of, product, decoded, unended, Cases, beginning, OfLatest, continuing, Twice, cases, Case1, Case2, Case3, Case16, Case17, Case18, Case4, Case5, Case6, Sound, AllSound, Readable, first, LineFault, Fault}
use Rattle.promises.specs.Meaning.{step_in}
use Rattle.promises.specs.Reading.{empty, leads_to, move_by, marks, marked_by, opens_by, Tests, test_beginning, of_latest, test_continuing, repeats, tests, line_case, reading_from, reading}
use Rattle.promises.proofs.KindTests.{tells_outside, tells_outsideℤ, tells_mon, tells_bal, tells_day, tells_out, tells_equal}
use Rattle.promises.proofs.Lines.{not_empty}

-- ---- each test tells its case

pub tells_empty : {A : Type 0} (l : List A) → Tells (empty l) (l ≡ [])
tells_empty [] = record { yes = λ q. refl; no = λ q h. contra refl q }
tells_empty (x ∷ l) = record { yes = λ q. contra q refl; no = λ q. not_empty x l }

-- a line that moves from s on e to u is `go` s e u
leads-is : (s e : ℕ) (p : Part) (u : ℕ) → (leads_to s e p ≡ some u) ↔ (p ≡ go s e u)
unfolding leads_to
leads-is s e (go a b c) u = (to, from)
  where
    to : pick (eqb a s && eqb b e) (some c) none ≡ some u → go a b c ≡ go s e u
    to q =
        case (eqb a s && eqb b e)
        (λ t. let z : some c ≡ some u = rw t at q in let w : c ≡ u = cc in let (x, y) = (tells_and (tells_eq a s) (tells_eq b e)).yes t in rw (x, y, w))
        (λ t. absurd (none-ne-some u (rw t at q)))

    from : go a b c ≡ go s e u → pick (eqb a s && eqb b e) (some c) none ≡ some u
    from q =
        let x : a ≡ s = cc in
        let y : b ≡ e = cc in
        let z : c ≡ u = cc in
        rw (x, y, z, eq-eqb s s refl, eq-eqb e e refl)
leads-is s e (stop a) u = (λ q. absurd (none-ne-some u q), λ q. let z : ◌≡◌ {A = ℕ} 0 1 = cc in absurd (omega arith))
leads-is s e (amp a d) u = (λ q. absurd (none-ne-some u q), λ q. let z : ◌≡◌ {A = ℕ} 0 1 = cc in absurd (omega arith))
leads-is s e (opens a b c) u = (λ q. absurd (none-ne-some u q), λ q. let z : ◌≡◌ {A = ℕ} 0 1 = cc in absurd (omega arith))

-- the lines move where one of them does
pub moved : (ps : List Part) (s e u : ℕ) → move_by ps s e ≡ some u → In (go s e u) ps
moved ps s e u = first_in (leads_to s e) (go s e) (leads-is s e) ps u

pub moves : (ps : List Part) (s e t : ℕ) → In (go s e t) ps → (u : ℕ) × (move_by ps s e ≡ some u)
moves ps s e t = in_first (leads_to s e) (go s e) (leads-is s e) ps t

-- a line that gives event e the step d is `amp` e d
pub step_is : (e : ℕ) (p : Part) (d : ℤ) → (step_in e p ≡ some d) ↔ (p ≡ amp e d)
unfolding step_in
step_is e (go a b c) d = (λ q. absurd (none-ne-some d q), λ q. let z : ◌≡◌ {A = ℕ} 0 1 = cc in absurd (omega arith))
step_is e (stop a) d = (λ q. absurd (none-ne-some d q), λ q. let z : ◌≡◌ {A = ℕ} 0 1 = cc in absurd (omega arith))
step_is e (amp f c) d = (to, from)
  where
    to : pick (eqb f e) (some c) none ≡ some d → amp f c ≡ amp e d
    to q = case (eqb f e) (λ t. let z : some c ≡ some d = rw t at q in let w : c ≡ d = cc in rw (eqb-true f e t, w)) (λ t. absurd (none-ne-some d (rw t at q)))

    from : amp f c ≡ amp e d → pick (eqb f e) (some c) none ≡ some d
    from q =
        let x : f ≡ e = cc in
        let y : c ≡ d = cc in
        rw (x, y, eq-eqb e e refl)
step_is e (opens a b c) d = (λ q. absurd (none-ne-some d q), λ q. let z : ◌≡◌ {A = ℕ} 0 1 = cc in absurd (omega arith))

-- a line that marks s is `stop` s
marks-is : (s : ℕ) (p : Part) → Tells (marks s p) (p ≡ stop s)
unfolding marks
marks-is s (go a b c) = record { yes = λ q. contra q refl; no = λ q r. let z : ◌≡◌ {A = ℕ} 0 1 = cc in omega arith }
marks-is s (stop a) = record { yes = λ q. ap stop ((tells_eq a s).yes q); no = λ q r. (tells_eq a s).no q (let z : a ≡ s = cc in z) }
marks-is s (amp a d) = record { yes = λ q. contra q refl; no = λ q r. let z : ◌≡◌ {A = ℕ} 0 1 = cc in omega arith }
marks-is s (opens a b c) = record { yes = λ q. contra q refl; no = λ q r. let z : ◌≡◌ {A = ℕ} 0 1 = cc in omega arith }

pub tells_marked : (ps : List Part) (s : ℕ) → Tells (marked_by ps s) (In (stop s) ps)
tells_marked ps s =
    let t = tells_any (marks s) (λ p. p ≡ stop s) (marks-is s) ps in
    record { yes = λ q. let (p, i, r) = t.yes q in subst (λ p. In p ps) r i; no = λ q i. t.no q (stop s, i, refl) }

-- a line that gives event e hours is `open` e a b
opens-is : (f : ℕ → ℕ → Bool) (e : ℕ) (p : Part) → Tells (opens_by f e p) ((a : ℕ) × (b : ℕ) × (p ≡ opens e a b) × (f a b ≡ true))
unfolding opens_by
opens-is f e (go a b c) = record { yes = λ q. contra q refl; no = λ q (x, y, r, t). let z : ◌≡◌ {A = ℕ} 0 1 = cc in omega arith }
opens-is f e (stop a) = record { yes = λ q. contra q refl; no = λ q (x, y, r, t). let z : ◌≡◌ {A = ℕ} 0 1 = cc in omega arith }
opens-is f e (amp a d) = record { yes = λ q. contra q refl; no = λ q (x, y, r, t). let z : ◌≡◌ {A = ℕ} 0 1 = cc in omega arith }
opens-is f e (opens u a b) =
    let t = tells_and (tells_eq u e) (tells_holds (f a b)) in
    record {
      yes = λ q. let (i, h) = t.yes q in (a, b, ap (λ u. opens u a b) i, h);
      no = λ q (x, y, r, h). let i : u ≡ e = cc in let j : x ≡ a = cc in let k : y ≡ b = cc in t.no q (i, rw (j, k) at h);
    }

pub tells_opens : (f : ℕ → ℕ → Bool) (ps : List Part) (e : ℕ) → Tells (any (opens_by f e) ps) ((a : ℕ) × (b : ℕ) × In (opens e a b) ps × (f a b ≡ true))
tells_opens f ps e =
    let t = tells_any (opens_by f e) (λ p. (a : ℕ) × (b : ℕ) × (p ≡ opens e a b) × (f a b ≡ true)) (opens-is f e) ps in
    record {
      yes = λ q. let (p, i, (a, b, r, h)) = t.yes q in (a, b, subst (λ p. In p ps) r i, h);
      no = λ q (a, b, i, h). t.no q (opens e a b, i, (a, b, refl, h));
    }

tells_latest : (f : Monitor → Bool) (P : Monitor → Type 0) → ((m : Monitor) → Tells (f m) (P m)) → (m : Option Monitor) → Tells (of_latest f m) (OfLatest P m)
unfolding of_latest OfLatest
tells_latest f P t none = tells_never
tells_latest f P t (some m) = t m

-- some number stands at two places
tells_twice : (es : List ℕ) → Tells (repeats es) (Twice es)
unfolding Twice
tells_twice [] = record { yes = λ q. contra q refl; no = λ q (i, j, a, b, e). omega arith }
tells_twice (e ∷ es) =
    let t = tells_or (tells_any (eqb e) (λ d. e ≡ d) (tells_eq e) es) (tells_twice es) in
    record { yes = λ q. there_twice (t.yes q); no = λ q p. t.no q (in_rest p) }
  where
    there_twice : ((d : ℕ) × In d es × (e ≡ d)) ⊎ ((i : ℕ) × (j : ℕ) × (i < j) × (j < length es) × (get_or es i 0 ≡ get_or es j 0))
        → (i : ℕ) × (j : ℕ) × (i < j) × (j < suc (length es)) × (get_or (e ∷ es) i 0 ≡ get_or (e ∷ es) j 0)
    there_twice (inl (d, i, q)) = let (k, l, r) = in_place 0 i in (0, suc k, omega arith, omega arith, q ∙ sym r)
    there_twice (inr (i, j, a, b, q)) = (suc i, suc j, omega arith, omega arith, q)

    in_rest : (i : ℕ) × (j : ℕ) × (i < j) × (j < suc (length es)) × (get_or (e ∷ es) i 0 ≡ get_or (e ∷ es) j 0)
        → ((d : ℕ) × In d es × (e ≡ d)) ⊎ ((i : ℕ) × (j : ℕ) × (i < j) × (j < length es) × (get_or es i 0 ≡ get_or es j 0))
    in_rest (i, zero, a, b, q) = absurd (omega arith)
    in_rest (zero, suc j, a, b, q) = inl (get_or es j 0, get_or-in es j 0 (omega arith), q)
    in_rest (suc i, suc j, a, b, q) = inr (i, j, omega arith, omega arith, q)

-- each of the tests tells its case
record Told (t : Tests) (c : Cases) : Type 0 where
  misformed : Tells t.misformed c.misformed
  misplaced : Tells t.misplaced c.misplaced
  out_of_range : Tells t.out_of_range c.out_of_range
  clash : (n : ℕ) → Tells (t.clash n) (c.clash n)
  again : Tells t.again c.again
  too_many : Tells t.too_many c.too_many

told-beginning : (ls : List Line) (k : Kind) → Told (test_beginning ls k) (beginning ls k)
unfolding test_beginning beginning
told-beginning ls k = record {
  misformed = tells_never;
  misplaced = tells_empty ls;
  out_of_range = tells_or (tells_out (events_of ls) k) (tells_le 4 (length (monitors ls)));
  clash = λ n. tells_and (tells_eq n 17) (tells_equal k);
  again = tells_never;
  too_many = tells_lt 1024 (product (monitors ls) * states_of k);
}

told-continuing : (ls : List Line) (r : Kind → Bool) (f : Monitor → Bool) (c : ℕ → Bool) (g : Monitor → Bool) (R : Kind → Type 0) (P : Monitor → Type 0) (C : ℕ → Type 0) (Q : Monitor → Type 0)
    → ((k : Kind) → Tells (r k) (R k)) → ((m : Monitor) → Tells (f m) (P m)) → ((n : ℕ) → Tells (c n) (C n)) → ((m : Monitor) → Tells (g m) (Q m))
    → Told (test_continuing ls r f c g) (continuing ls R P C Q)
unfolding test_continuing continuing
told-continuing ls r f c g R P C Q right out clash again = record {
  misformed = tells_never;
  misplaced = tells_not (tells_latest (λ m. r m.kind) (λ m. R m.kind) (λ m. right m.kind) (latest (monitors ls)));
  out_of_range = tells_latest f P out (latest (monitors ls));
  clash = clash;
  again = tells_latest g Q again (latest (monitors ls));
  too_many = tells_never;
}

-- one clause a form
told : (ls : List Line) (l : Line) → Told (tests ls l) (cases ls l)
unfolding tests cases
told ls (rig E) = record {
  misformed = tells_never;
  misplaced = tells_not (tells_empty ls);
  out_of_range = tells_outside 1 16 E;
  clash = λ n. tells_never;
  again = tells_never;
  too_many = tells_never;
}
told ls (ord es) = record {
  misformed = tells_and (tells_eq (length ls) 1) (tells_not (tells_eq (length es) (events_of ls)));
  misplaced = tells_not (tells_eq (length ls) 1);
  out_of_range = tells_any (leb (events_of ls)) (λ e. events_of ls ≤ e) (tells_le (events_of ls)) es;
  clash = λ n. tells_and (tells_eq n 16) (tells_twice es);
  again = tells_never;
  too_many = tells_never;
}
told ls (begins k) = told-beginning ls k
told ls (continues (go s e t)) =
    told-continuing ls _ _ _ _ _ _ _ _ tells_mon
    (λ m. tells_or (tells_le (states_of m.kind) s) (tells_or (tells_le (events_of ls) e) (tells_le (states_of m.kind) t)))
    (λ n. tells_never)
    (λ m. tells_first (leads_to s e) (go s e) (leads-is s e) m.parts)
told ls (continues (stop s)) = told-continuing ls _ _ _ _ _ _ _ _ tells_mon (λ m. tells_le (states_of m.kind) s) (λ n. tells_never) (λ m. tells_marked m.parts s)
told ls (continues (amp e d)) =
    told-continuing ls _ _ _ _ _ _ _ _ tells_bal
    (λ m. tells_or (tells_le (events_of ls) e) (tells_outsideℤ (neg_ℤ (pos 15)) (pos 15) d))
    (λ n. tells_never)
    (λ m. tells_first (step_in e) (amp e) (step_is e) m.parts)
told ls (continues (opens e a b)) =
    told-continuing ls _ _ _ _ _ _ _ _ tells_day
    (λ m. tells_or (tells_le (events_of ls) e) (tells_lt (states_of m.kind) b))
    (λ n. tells_and (tells_eq n 18) (tells_le b a))
    (λ m. tells_never)
told ls other = record { misformed = tells_always; misplaced = tells_empty ls; out_of_range = tells_never; clash = λ n. tells_never; again = tells_never; too_many = tells_never }

-- ---- one line

pub sound_case : (ls : List Line) (l : Line) → Sound ls l → line_case ls l ≡ 0
unfolding line_case Case2 Case5 Case3 Case16 Case17 Case18 Case4 Case6
sound_case ls l s =
    let t = told ls l in
    rw (tells_false t.misformed s.formed, tells_false t.misplaced s.placed, tells_false t.out_of_range s.ranged, tells_false (t.clash 16) s.named_once, tells_false (t.clash 17) s.unequal, tells_false (t.clash 18) s.nonempty, tells_false t.again s.new, tells_false t.too_many s.fits)

-- where a case is the first that holds, its test picks its number m; k is what the later tests pick
picked : {b : Bool} {P L : Type 0} (m k : ℕ) {n : ℕ} → Tells b P → m ≢ 0 → (L → (k ≡ n) × (n ≢ 0)) → first P (n ≡ m) L → (pick b m k ≡ n) × (n ≢ 0)
picked m k t ne later (inl (p, q)) = rw (tells_true t p, q) (refl, ne)
picked m k t ne later (inr (p, l)) = rw (tells_false t p) (later l)

pub fault_case : (ls : List Line) (l : Line) (n : ℕ) → LineFault ls l n → (line_case ls l ≡ n) × (n ≢ 0)
unfolding LineFault line_case Case2 Case5 Case3 Case16 Case17 Case18 Case4 Case6
fault_case ls l n =
    let t = told ls l in
    picked 2 _ t.misformed (λ q. omega arith)
    (picked 5 _ t.misplaced (λ q. omega arith)
    (picked 3 _ t.out_of_range (λ q. omega arith)
    (picked 16 _ (t.clash 16) (λ q. omega arith)
    (picked 17 _ (t.clash 17) (λ q. omega arith)
    (picked 18 _ (t.clash 18) (λ q. omega arith)
    (picked 4 _ t.again (λ q. omega arith)
    (picked 6 0 t.too_many (λ q. omega arith)
    (λ never. absurd never))))))))

-- every line is sound, or some case is the first that holds of it
judged : (ls : List Line) (l : Line) → Sound ls l ⊎ ((n : ℕ) × LineFault ls l n)
unfolding LineFault Case2 Case5 Case3 Case16 Case17 Case18 Case4 Case6
judged ls l =
    let t = told ls l in
    case (tests ls l).misformed (λ q. inr (2, inl (t.misformed.yes q, refl))) (λ q.
    let a = t.misformed.no q in
    case (tests ls l).misplaced (λ q. inr (5, inr (a, inl (t.misplaced.yes q, refl)))) (λ q.
    let b = t.misplaced.no q in
    case (tests ls l).out_of_range (λ q. inr (3, inr (a, inr (b, inl (t.out_of_range.yes q, refl))))) (λ q.
    let c = t.out_of_range.no q in
    case ((tests ls l).clash 16) (λ q. inr (16, inr (a, inr (b, inr (c, inl ((t.clash 16).yes q, refl)))))) (λ q.
    let d = (t.clash 16).no q in
    case ((tests ls l).clash 17) (λ q. inr (17, inr (a, inr (b, inr (c, inr (d, inl ((t.clash 17).yes q, refl))))))) (λ q.
    let e = (t.clash 17).no q in
    case ((tests ls l).clash 18) (λ q. inr (18, inr (a, inr (b, inr (c, inr (d, inr (e, inl ((t.clash 18).yes q, refl)))))))) (λ q.
    let f = (t.clash 18).no q in
    case (tests ls l).again (λ q. inr (4, inr (a, inr (b, inr (c, inr (d, inr (e, inr (f, inl (t.again.yes q, refl))))))))) (λ q.
    let g = t.again.no q in
    case (tests ls l).too_many (λ q. inr (6, inr (a, inr (b, inr (c, inr (d, inr (e, inr (f, inr (g, inl (t.too_many.yes q, refl)))))))))) (λ q.
    inl (record { formed = a; placed = b; ranged = c; named_once = d; unequal = e; nonempty = f; new = g; fits = t.too_many.no q })))))))))

-- a line is sound exactly if no test finds a case
pub case_sound : (ls : List Line) (l : Line) → line_case ls l ≡ 0 → Sound ls l
case_sound ls l q = ⊎_elim (λ s. s) (λ (n, f). let (r, ne) = fault_case ls l n f in absurd (ne (sym r ∙ q))) (judged ls l)

-- ---- all lines

pub all_sound_append : (front xs ys : List Line) → AllSound front (xs ++ ys) ↔ (AllSound front xs × AllSound (front ++ xs) ys)
unfolding AllSound
all_sound_append front [] ys = rw append-nil (λ s. (tt, s), λ s. s.1)
all_sound_append front (x ∷ xs) ys =
    let ih = all_sound_append (front ++ (x ∷ [])) xs ys in
    let q : (front ++ (x ∷ [])) ++ xs ≡ front ++ (x ∷ xs) = append_assoc front (x ∷ []) xs in
    (λ s. let (a, b) = ih.0 s.1 in ((s.0, a), subst (λ k. AllSound k ys) q b), λ s. (s.0.0, ih.1 (s.0.1, subst (λ k. AllSound k ys) (sym q) s.1)))

-- sound lines are passed over
skip : (front xs ys : List Line) (tail : List ℕ) → AllSound front xs → reading_from front (xs ++ ys) tail ≡ reading_from (front ++ xs) ys tail
unfolding reading_from AllSound
skip front [] ys tail s = rw append-nil
skip front (x ∷ xs) ys tail s = rw (sound_case front x s.0) (skip (front ++ (x ∷ [])) xs ys tail s.1 ∙ ap (λ k. reading_from k ys tail) (append_assoc front (x ∷ []) xs))

-- a bad line is said
said : (front : List Line) (l : Line) (ys : List Line) (tail : List ℕ) (n : ℕ) → LineFault front l n → reading_from front (l ∷ ys) tail ≡ refused n (suc (length front))
unfolding reading_from
said front l ys tail n f =
    let (q, ne) = fault_case front l n f in
    rw (q, tells_false (tells_eq n 0) ne)

-- either all lines are sound, or there is a first that is not
searched : (front back : List Line) → AllSound front back ⊎ ((xs : List Line) × (l : Line) × (ys : List Line) × (n : ℕ) × (back ≡ xs ++ (l ∷ ys)) × AllSound front xs × LineFault (front ++ xs) l n)
unfolding AllSound
searched front [] = inl tt
searched front (l ∷ back) = look (judged front l) (searched (front ++ (l ∷ [])) back)
  where
    look : Sound front l ⊎ ((n : ℕ) × LineFault front l n)
        → AllSound (front ++ (l ∷ [])) back ⊎ ((xs : List Line) × (k : Line) × (ys : List Line) × (n : ℕ) × (back ≡ xs ++ (k ∷ ys)) × AllSound (front ++ (l ∷ [])) xs × LineFault ((front ++ (l ∷ [])) ++ xs) k n)
        → AllSound front (l ∷ back) ⊎ ((xs : List Line) × (k : Line) × (ys : List Line) × (n : ℕ) × ((l ∷ back) ≡ xs ++ (k ∷ ys)) × AllSound front xs × LineFault (front ++ xs) k n)
    look (inr (n, f)) r = inr ([], l, back, n, refl, tt, rw append-nil f)
    look (inl s) (inl r) = inl (s, r)
    look (inl s) (inr (xs, k, ys, n, q, r, f)) = inr (l ∷ xs, k, ys, n, ap (λ b. l ∷ b) q, (s, r), subst (λ fr. LineFault fr k n) (append_assoc front (l ∷ []) xs) f)

-- ---- the text

-- a bad line after sound ones
pub bad_line : (t : List ℕ) (front : List Line) (l : Line) (back : List Line) (n : ℕ) → (Case1 t → ⊥) → decoded t ≡ front ++ (l ∷ back) → AllSound [] front → LineFault front l n
    → Fault t n (suc (length front))
unfolding Fault
bad_line t front l back n short q s f = inr (inl (short, (front, l, back, q, s, f, refl)))

-- after the last line: is it ended, and is there a monitor?
ended-reading : (ls : List Line) (tail : List ℕ) → AllSound [] ls
    → reading_from [] ls tail ≡ unless 2 (suc (length ls)) (not (empty tail)) (unless 5 (suc (length ls)) (empty (monitors ls)) (served []))
unfolding reading_from
ended-reading ls tail s = ap (λ k. reading_from [] k tail) (sym (append-nil ls)) ∙ skip [] ls [] tail s

pub readable-said : (t : List ℕ) → Readable t → reading t ≡ served []
unfolding reading Case1
readable-said t r =
    rw (tells_false (tells_lt 65535 (length t)) r.short, ended-reading (decoded t) (unended t) r.sound, r.ended, tells_false (tells_empty (monitors (decoded t))) r.monitored)

pub fault_said : (t : List ℕ) (n p : ℕ) → Fault t n p → reading t ≡ refused n p
unfolding reading Fault Case1
fault_said t n p (inl (c, a, b)) = rw (tells_true (tells_lt 65535 (length t)) c, a, b)
fault_said t n p (inr (inl (c, (front, l, back, q, s, f, e)))) =
    rw (tells_false (tells_lt 65535 (length t)) c, q, e) (skip [] front (l ∷ back) (unended t) s ∙ said front l back (unended t) n f)
fault_said t n p (inr (inr (inl (c, s, u, a, b)))) =
    rw (tells_false (tells_lt 65535 (length t)) c, ended-reading (decoded t) (unended t) s, tells_false (tells_empty (unended t)) u, a, b)
fault_said t n p (inr (inr (inr (c, s, u, m, a, b)))) =
    rw (tells_false (tells_lt 65535 (length t)) c, ended-reading (decoded t) (unended t) s, u, m, a, b)

-- the numbers of the checks on a text are 1 to 6, and from 16 on
abbrev pub OfText : ℕ → Type 0
OfText n = (n ≤ 6) ⊎ (16 ≤ n)

-- the number of the first case that holds, and of a later one
numbered : {P L : Type 0} (m : ℕ) {n : ℕ} → OfText m → (L → OfText n) → first P (n ≡ m) L → OfText n
numbered m o later (inl (p, q)) = rw q o
numbered m o later (inr (p, l)) = later l

line_number : (ls : List Line) (l : Line) (n : ℕ) → LineFault ls l n → OfText n
unfolding LineFault
line_number ls l n =
    numbered 2 (inl (omega arith)) (numbered 5 (inl (omega arith)) (numbered 3 (inl (omega arith)) (numbered 16 (inr (omega arith)) (numbered 17 (inr (omega arith)) (numbered 18 (inr (omega arith)) (numbered 4 (inl (omega arith)) (numbered 6 (inl (omega arith)) (λ never. absurd never))))))))

pub fault_number : (t : List ℕ) (n p : ℕ) → Fault t n p → OfText n
unfolding Fault
fault_number t n p (inl (c, q, r)) = inl (omega arith)
fault_number t n p (inr (inl (c, (front, l, back, e, s, f, r)))) = line_number front l n f
fault_number t n p (inr (inr (inl (c, s, u, q, r)))) = inl (omega arith)
fault_number t n p (inr (inr (inr (c, s, u, m, q, r)))) = inl (omega arith)

-- every text is readable, or has a fault
pub readable-or_fault : (t : List ℕ) → Readable t ⊎ ((n : ℕ) × (p : ℕ) × Fault t n p)
unfolding Fault Case1
readable-or_fault t =
    case (ltb 65535 (length t)) (λ q. inr (1, 0, inl ((tells_lt 65535 (length t)).yes q, refl, refl))) (λ q. lined ((tells_lt 65535 (length t)).no q) (searched [] (decoded t)))
  where
    lined : (65535 < length t → ⊥)
        → AllSound [] (decoded t) ⊎ ((xs : List Line) × (l : Line) × (ys : List Line) × (n : ℕ) × (decoded t ≡ xs ++ (l ∷ ys)) × AllSound [] xs × LineFault xs l n)
        → Readable t ⊎ ((n : ℕ) × (p : ℕ) × Fault t n p)
    lined short (inr (xs, l, ys, n, q, s, f)) = inr (n, suc (length xs), inr (inl (short, (xs, l, ys, q, s, f, refl))))
    lined short (inl s) =
        case (empty (unended t))
        (λ q. case (empty (monitors (decoded t)))
        (λ r. inr (5, suc (length (decoded t)), inr (inr (inr (short, s, (tells_empty (unended t)).yes q, (tells_empty (monitors (decoded t))).yes r, refl, refl)))))
        (λ r. inl (record { short = short; sound = s; ended = (tells_empty (unended t)).yes q; monitored = (tells_empty (monitors (decoded t))).no r })))
        (λ q. inr (2, suc (length (decoded t)), inr (inr (inl (short, s, (tells_empty (unended t)).no q, refl, refl)))))

-- reading refuses with (n, p) exactly where the checks, as 01 writes them, do
pub reading_refuses : (t : List ℕ) (n p : ℕ) → (reading t ≡ refused n p) ↔ Fault t n p
reading_refuses t n p = (λ q. which q (readable-or_fault t), fault_said t n p)
  where
    which : reading t ≡ refused n p → Readable t ⊎ ((n : ℕ) × (p : ℕ) × Fault t n p) → Fault t n p
    which q (inl r) = let s : reading t ≡ served [] = readable-said t r in let z : ◌≡◌ {A = ℕ} 0 1 = cc in absurd (omega arith)
    which q (inr (m, o, f)) =
        let s : reading t ≡ refused m o = fault_said t m o f in
        let a : m ≡ n = cc in
        let b : o ≡ p = cc in
        rw (a, b) at f

-- and serves exactly the readable texts
pub reading-serves : (t : List ℕ) → Served (reading t) ↔ Readable t
unfolding Served
reading-serves t = (λ (vs, q). which vs q (readable-or_fault t), λ r. ([], readable-said t r))
  where
    which : (vs : List ℕ) → reading t ≡ served vs → Readable t ⊎ ((n : ℕ) × (p : ℕ) × Fault t n p) → Readable t
    which vs q (inl r) = r
    which vs q (inr (n, p, f)) = let s : reading t ≡ refused n p = fault_said t n p f in let z : ◌≡◌ {A = ℕ} 0 1 = cc in absurd (omega arith)
