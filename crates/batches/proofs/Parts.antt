-- Scenarios written part by part. Why: what is written and the scenario of what is left are the whole scenario, and each scenario has its own h bytes.
-- Assumes nothing.
use mathlib.Core.Path.{◌≡◌, sym, ◌∙◌, subst}
use mathlib.Core.Logic.{◌⊎◌, inl, inr, ◌≢◌}
use mathlib.Core.List.{List, ◌++◌}
use Prim.Native.Nat.{ℕ, ◌+◌, ◌-◌, ◌*◌, ◌≤◌, ◌<◌}
use native.Mathlib.Omega.{arith}
use native.Mathlib.Nat.{eq-or-lt_of_le}
use native.Mathlib.Decide.{ℕ_discrete}
use lib.ListN.{length, get_or, take, drop, set, length-set}
use lib.Seq.{get_or-set_same, get_or-set_other}
use Rattle.lists.proofs.Tests.{split}
use Rattle.automaton.specs.Automaton.{Automaton}
use Rattle.ranking.specs.Ranks.{Unranked, Begun}
use Rattle.ranking.proofs.Parts.{unranked_long, begun_more}
use Rattle.keeping.specs.Keeping.{Past}
use Rattle.batches.specs.declared.Standing.{Standing}
use Rattle.batches.specs.Batches.{AllBegun, StatesBelow, nowhere}
use Rattle.lists.proofs.Splices.{splice_before, splice_past}
use Rattle.keeping.proofs.Places.{place_below}

module _ (A : Automaton) (x h : ℕ) where
  -- bytes written beside it
  begun_beside : (i at b s l o : ℕ) (out after : List ℕ) → ((j : ℕ) → j < at → get_or after (o + j) 0 ≡ get_or out (o + j) 0) → Begun A x h i at b s l o out → Begun A x h i at b s l o after
  begun_beside i at b s l o out after same is = record {
    not_cut_off = is.not_cut_off;
    is_below = is.is_below;
    written = λ j lt. same j lt ∙ is.written j lt;
    rest = is.rest;
  }

-- the first k scenarios have the next part too
pub record Passed (A : Automaton) (x h : ℕ) (is : List ℕ) (at n b k : ℕ) (standings : List Standing) (out : List ℕ) : Type 0 where
  pub done : (j : ℕ) → j < k → Begun A x h (get_or is j 0) (at + n) b (get_or standings j nowhere).state (get_or standings j nowhere).left (j * h) out
  pub ahead : (j : ℕ) → k ≤ j → j < length is → Begun A x h (get_or is j 0) at (b + n) (get_or standings j nowhere).state (get_or standings j nowhere).left (j * h) out

module _ (A : Automaton) (x h : ℕ) (is : List ℕ) (at n b : ℕ) where
  pub passed_none : (standings : List Standing) (out : List ℕ) → AllBegun A x h is at (b + n) standings out → Passed A x h is at n b 0 standings out
  unfolding AllBegun
  passed_none standings out all = record { done = λ j lt. absurd (omega arith); ahead = λ j le lt. all j lt }

  pub passed_all : (k : ℕ) (standings : List Standing) (out : List ℕ) → length is ≤ k → Passed A x h is at n b k standings out → AllBegun A x h is (at + n) b standings out
  unfolding AllBegun
  passed_all k standings out le p j lt = p.done j (omega arith)

  module _ (k : ℕ) (standings : List Standing) (out last : List ℕ) (s : Standing) (lt : k < length is) (within : at + n ≤ h) (fits : length is * h ≤ length out)
      (some : k < length standings) (p : Passed A x h is at n b k standings out)
      {m w : ℕ} (m-is : m ≡ n) (w-is : w ≡ n) (told : Unranked A b m (get_or standings k nowhere).state (get_or standings k nowhere).left last s.state s.left) where
    part : Unranked A b n (get_or standings k nowhere).state (get_or standings k nowhere).left last s.state s.left
    part = subst (λ (j : ℕ). Unranked A b j (get_or standings k nowhere).state (get_or standings k nowhere).left last s.state s.left) m-is told

    long : length last ≡ n
    long = unranked_long A b n (get_or standings k nowhere).state (get_or standings k nowhere).left last s.state s.left (p.ahead k (omega arith) lt).is_below part

    abbrev from : ℕ
    from = k * h + at

    abbrev written : List ℕ
    written = take from out ++ (last ++ drop n (drop from out))

    own_end : k * h + h ≤ length out
    own_end = omega (arith, place_below k (length is) h lt)

    room : from + n ≤ length out
    room = omega (arith, own_end)

    beside : (j : ℕ) → j ≢ k → (i at b : ℕ) → at ≤ h → Begun A x h i at b (get_or standings j nowhere).state (get_or standings j nowhere).left (j * h) out
        → Begun A x h i at b (get_or (set standings k s) j nowhere).state (get_or (set standings k s) j nowhere).left (j * h) written
    beside j ne i at' b' le is' =
        rw (get_or-set_other standings k j s nowhere ne)
        (begun_beside A x h i at' b' (get_or standings j nowhere).state (get_or standings j nowhere).left (j * h) out written (λ m l. same m l (split k j)) is')
      where
        same : (m : ℕ) → m < at' → (k ≤ j) ⊎ (j < k) → get_or written (j * h + m) 0 ≡ get_or out (j * h + m) 0
        same m l (inl kj) = splice_past out last from n 0 room long (j * h + m) (omega (arith, place_below k j h (next kj ne)))
          where
            next : k ≤ j → j ≢ k → k < j
            next a b = go (eq-or-lt_of_le a)
              where
                go : (k ≡ j) ⊎ (k < j) → k < j
                go (inl q) = absurd (b (sym q))
                go (inr q) = q
        same m l (inr jk) = splice_before out last from n 0 room long (j * h + m) (omega (arith, place_below j k h jk))

    done_more : (j : ℕ) → (j ≡ k) ⊎ (j < k) → Begun A x h (get_or is j 0) (at + n) b (get_or (set standings k s) j nowhere).state (get_or (set standings k s) j nowhere).left (j * h) written
    done_more j (inl q) =
        rw (q, get_or-set_same standings k s nowhere some)
        (begun_more A x h (get_or is k 0) at b n (get_or standings k nowhere).state (get_or standings k nowhere).left (k * h) out last s.state s.left room (p.ahead k (omega arith) lt) part)
    done_more j (inr l) = beside j (λ q. omega arith) (get_or is j 0) (at + n) b within (p.done j l)

    next : Passed A x h is at n b (k + 1) (set standings k s) written
    next = record {
      done = λ j l. done_more j (eq-or-lt_of_le (omega arith));
      ahead = λ j le l. beside j (λ q. omega arith) (get_or is j 0) at (b + n) (omega arith) (p.ahead j (omega arith) l);
    }

    pub passed_more : (d : List ℕ) → Past (length is * h) d out → Passed A x h is at n b (k + 1) (set standings k s) (take from out ++ (last ++ drop w (drop from out)))
        × Past (length is * h) d (take from out ++ (last ++ drop w (drop from out)))
    unfolding Past
    passed_more d past = rw w-is (next, λ i le. splice_past out last from n 0 room long i (omega (arith, place_below k (length is) h lt)) ∙ past i le)

-- where a scenario stands is stored
pub states-set : (p k : ℕ) (s : Standing) (standings : List Standing) → s.state < p → k < length standings → StatesBelow p standings → StatesBelow p (set standings k s)
unfolding StatesBelow
states-set p k s standings lt some all j l = go (ℕ_discrete j k)
  where
    go : Dec (j ≡ k) → (get_or (set standings k s) j nowhere).state < p
    go (yes e) = rw (e, get_or-set_same standings k s nowhere some) lt
    go (no n) = rw (get_or-set_other standings k j s nowhere n) (all j (let q = length-set standings k s in omega arith))

-- so many events are written, by another sum
pub begun_at : (A : Automaton) (x h : ℕ) (is : List ℕ) (b : ℕ) (standings : List Standing) (out : List ℕ) {at to : ℕ} → at ≡ to → AllBegun A x h is at b standings out → AllBegun A x h is to b standings out
begun_at A x h is b standings out e all = subst (λ (n : ℕ). AllBegun A x h is n b standings out) e all

-- so many are left, by another sum
pub all_left : (A : Automaton) (x h : ℕ) (is : List ℕ) (standings : List Standing) (out : List ℕ) {n m : ℕ} → n ≡ m → AllBegun A x h is (h - n) n standings out → AllBegun A x h is (h - m) m standings out
all_left A x h is standings out e all = subst (λ (n : ℕ). AllBegun A x h is (h - n) n standings out) e all
