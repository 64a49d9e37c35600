-- Demand 3 holds of the four calls.
-- Why: what belongs by the lines is the list of scenarios of the joint automaton; Count tells its length, Scenarios writes its elements by their
-- places, Index tells the places, and a full shuffle puts out every place once; a shuffle puts out any different numbers for one list of draws
-- only. Assumes nothing.
use mathlib.Core.Path.{◌≡◌, refl, sym, ap, ◌∙◌, subst}
use mathlib.Core.Logic.{◌↔◌}
use mathlib.Core.List.Memᴰ
use mathlib.Core.List.{List, [], ◌∷◌, Memᴰ as In}
use Prim.Native.Nat.{ℕ, ◌+◌, ◌*◌, ◌≤◌, ◌<◌}
use native.Mathlib.Omega.{arith}
use native.Mathlib.Nat.{one-mul}
use lib.ListN.{length, get_or, replicate, length-replicate}
use Rattle.lists.proofs.Members.{get_or-in}
use Rattle.lists.proofs.Distinct.{in_place, distinct-once}
use Rattle.automaton.specs.Pruning.{passes}
use Rattle.automaton.specs.Counting as counting
use Rattle.automaton.specs.Counting.{Stays, most}
use Rattle.automaton.specs.Ranking.{unrank, rank}
use Rattle.automaton.specs.Shuffle as swapping
use Rattle.automaton.specs.Shuffle.{Valid}
use Rattle.automaton.proofs.Counting.{scenarios_distinct, scenarios_sound, scenarios_complete}
use Rattle.automaton.proofs.Ranking.{index_belongs, belongs_index, index_one, index_order}
use Rattle.automaton.proofs.Shuffle.{shuffle_sample, shuffle_permutes, sample_drawn, shuffle-one, length-shuffle}
use Rattle.promises.specs.Answer.{Answer, served, Served, Refuses, SaysNone}
use Rattle.promises.specs.Text.{decoded, Readable, Case7, Case8, Case12, joint_states}
use Rattle.promises.specs.Meaning.{Belongs, Earlier, Comes}
use Rattle.promises.specs.Rig.{rig_automaton, start}
use Rattle.promises.specs.Calls.{total, count, scenarios, written, index}
use Rattle.promises.specs.Demand3.{Once, Shufflable, block, output, Cells, Room, Gives, None, EachOnce, Complete, Whole, Fair, Demand}
use Rattle.promises.specs.Generator.{generator}
use Rattle.promises.proofs.Meaning.{events_ordered, events_distinct, text_belongs}
use Rattle.promises.proofs.Order.{comes_lex}
use Rattle.promises.proofs.Checks.{counted_on, says_none}
use Rattle.promises.proofs.Answers.{belongs_listed, listed-length, none_belongs, count_is, scenarios_is, list_none, served-none, index_none, index_of_scenario, index_of_others, scenario_of, scenarios_served, block_written, valid-draws, valid_places, shuffle-served, output-is}

-- ---- what an index gives

module _ (t : List ℕ) (h : ℕ) (r : Readable t) (c7 : Case7 h → ⊥) (ge : 1 ≤ total t h) (lt : total t h < most) where
  pub gives_scenario : (i : ℕ) → i < total t h → Gives generator t h i (scenario_of t h i)
  unfolding Gives Cells Room generator
  gives_scenario i l is cells out n c8 c12 m q s = block_written t h r c7 ge lt is cells out c8 c12 s n m ∙ ap (scenario_of t h) q

  -- lists and buffers that are long enough are there
  enough_cells : (Case8 t h (replicate ((h + 1) * joint_states t) 0)) → ⊥
  unfolding Case8
  enough_cells c = omega (arith, length-replicate {A = ℕ} ((h + 1) * joint_states t) 0)

  enough_room : (i : ℕ) → Case12 h (i ∷ []) (replicate h 0) → ⊥
  unfolding Case12
  enough_room i c = omega (arith, length-replicate {A = ℕ} h 0, one-mul h)

  -- and so an index gives nothing else
  pub gives_only : (i : ℕ) (w : List ℕ) → i < total t h → Gives generator t h i w → w ≡ scenario_of t h i
  unfolding Gives Cells Room generator Served
  gives_only i w l g =
      let is : List ℕ = i ∷ [] in
      let cells : List ℕ = replicate ((h + 1) * joint_states t) 0 in
      let out : List ℕ = replicate h 0 in
      let s : scenarios t h is cells out ≡ served [] = scenarios_served t h r c7 ge lt is cells out enough_cells (enough_room i) (λ j m. rw (Memᴰ.eq_of_singleton m) l) in
      sym (g is cells out 0 enough_cells (enough_room i) (omega arith) refl ([], s)) ∙ block_written t h r c7 ge lt is cells out enough_cells (enough_room i) ([], s) 0 (omega arith)

-- ---- the demand

none_said : (t : List ℕ) (h : ℕ) → Readable t → (Case7 h → ⊥) → None generator t h
unfolding Cells Room generator
none_said t h r c7 = record {
  by_count = λ cells c8. says (count t h cells) (rw (count_is t h r c7 cells c8) (says_none t h _ (served-none _)));
  by_scenarios = λ is cells out c8 c12. says (scenarios t h is cells out) (rw (scenarios_is t h r c7 is cells out c8 c12) (says_none t h _ (list_none t h r c7 is)));
  by_index = λ s cells c8 q c13. says (index t s cells) (subst (λ n. SaysNone (index t s cells) ↔ (total t n ≡ 0)) q (index_none t s cells r (λ c. c7 (rw q at c)) (λ c. c8 (rw q at c)) c13));
}
  where
    says : (a : Answer) → SaysNone a ↔ (total t h ≡ 0) → SaysNone a ↔ ((w : List ℕ) → Belongs t h w → ⊥)
    says a e = let n = none_belongs t h r in (λ s. n.0 (e.0 s), λ f. e.1 (n.1 f))

module _ (t : List ℕ) (h : ℕ) (r : Readable t) (c7 : Case7 h → ⊥) (ge : 1 ≤ total t h) (lt : total t h < most) where
  belongs_ranked : (w : List ℕ) → Belongs t h w → (rank (rig_automaton t) (start t) w < total t h) × (unrank (rig_automaton t) h (start t) (rank (rig_automaton t) (start t) w) ≡ w)
  unfolding total
  belongs_ranked w b = belongs_index (rig_automaton t) h (start t) w ((text_belongs t r h w).0 b)

  index_belongs_text : (i : ℕ) → i < total t h → Belongs t h (unrank (rig_automaton t) h (start t) i)
  unfolding total
  index_belongs_text i l = (text_belongs t r h _).1 (index_belongs (rig_automaton t) h (start t) i l)

  only_index : (i j : ℕ) → i < total t h → j < total t h → unrank (rig_automaton t) h (start t) i ≡ unrank (rig_automaton t) h (start t) j → i ≡ j
  unfolding total
  only_index = index_one (rig_automaton t) (events_distinct t r) h (start t)

  in_order : (i j : ℕ) → i < j → j < total t h → Comes t (unrank (rig_automaton t) h (start t) i) (unrank (rig_automaton t) h (start t) j)
  unfolding total
  in_order i j l k = rw comes_lex (index_order (rig_automaton t) (Earlier (decoded t)) (events_ordered t r) h (start t) i j l k)

  complete_at : (ds scratch o cells out : List ℕ) → Shufflable (total t h) ds scratch o → length ds ≡ total t h → (Case8 t h cells → ⊥) → (Case12 h ds out → ⊥)
      → Complete generator t h (total t h) ds scratch o cells out
  unfolding Served Case12 generator
  complete_at ds scratch o cells out v l c8 c12 = (([], shuffle-served (total t h) ds scratch o v), for (output generator (total t h) ds scratch o) (output-is (total t h) ds scratch o v))
    where
      valid : Valid (total t h) 0 ds
      valid = valid-draws (total t h) ds v.valid

      for : (is : List ℕ) → is ≡ swapping.shuffle ds → EachOnce generator t h (total t h) is cells out
      for is q = (
        long,
        ([], s),
        (λ k m. rw (is_block k m) (index_belongs_text (get_or is k 0) (at_below k m))),
        (λ w b. placed w (belongs_ranked w b).1 (in_place 0 {l = is} (rw q (((shuffle_permutes (total t h) ds valid l).just (rank (rig_automaton t) (start t) w)).1 (belongs_ranked w b).0)))),
        (λ j k a b e. distinct-once 0 is (rw q (shuffle_sample (total t h) ds valid).once) j k (omega (arith, long)) (omega (arith, long)) (only_index (get_or is j 0) (get_or is k 0) (at_below j a) (at_below k b) (sym (is_block j a) ∙ e ∙ is_block k b))),
      )
        where
          long : length is ≡ total t h
          long = ap length q ∙ length-shuffle ds ∙ l

          room : Case12 h is out → ⊥
          room c = c12 (rw (long ∙ sym l) at c)

          below : (i : ℕ) → In i is → i < total t h
          below i m = (shuffle_sample (total t h) ds valid).below i (rw q at m)

          s : scenarios t h is cells out ≡ served []
          s = scenarios_served t h r c7 ge lt is cells out c8 room below

          is_block : (k : ℕ) → k < total t h → block h k (written t h is cells out) ≡ unrank (rig_automaton t) h (start t) (get_or is k 0)
          is_block k m = block_written t h r c7 ge lt is cells out c8 room ([], s) k (omega (arith, long))

          at_below : (k : ℕ) → k < total t h → get_or is k 0 < total t h
          at_below k m = below (get_or is k 0) (get_or-in is k 0 (omega (arith, long)))

          placed : (w : List ℕ) → unrank (rig_automaton t) h (start t) (rank (rig_automaton t) (start t) w) ≡ w → (k : ℕ) × (k < length is) × (get_or is k 0 ≡ rank (rig_automaton t) (start t) w)
              → (k : ℕ) × (k < total t h) × (block h k (written t h is cells out) ≡ w)
          placed w u (k, a, b) = let m : k < total t h = omega (arith, long) in (k, m, is_block k m ∙ ap (unrank (rig_automaton t) h (start t)) b ∙ u)

  whole_said : (L : List (List ℕ)) → length L ≡ total t h → Whole generator t h L
  unfolding Cells Room generator Served
  whole_said L q = record {
    counted = λ cells c8. (passes (rig_automaton t), rw q (count_is t h r c7 cells c8 ∙ counted_on t h _ ge lt));
    listed = λ is cells out c8 c12 below. ([], scenarios_served t h r c7 ge lt is cells out c8 c12 (λ i m. rw q at (below i m)));
    gives = λ i l. (unrank (rig_automaton t) h (start t) i, index_belongs_text i (rw q at l), gives_scenario t h r c7 ge lt i (rw q at l));
    given = λ w b. let (l, u) = belongs_ranked w b in (rank (rig_automaton t) (start t) w, rw q l, subst (Gives generator t h (rank (rig_automaton t) (start t) w)) u (gives_scenario t h r c7 ge lt (rank (rig_automaton t) (start t) w) l));
    by_one = λ w i j a b f g. let a' : i < total t h = rw q at a in let b' : j < total t h = rw q at b in only_index i j a' b' (sym (gives_only t h r c7 ge lt i w a' f) ∙ gives_only t h r c7 ge lt j w b' g);
    ordered = λ i j v w l m f g. let m' : j < total t h = rw q at m in rw (gives_only t h r c7 ge lt i v (omega arith) f, gives_only t h r c7 ge lt j w m' g) (in_order i j l m');
    indexed = λ w cells c8 b. let (l, u) = belongs_ranked w b in (rank (rig_automaton t) (start t) w, rw q l, subst (Gives generator t h (rank (rig_automaton t) (start t) w)) u (gives_scenario t h r c7 ge lt (rank (rig_automaton t) (start t) w) l), told w cells c8 b);
    others = λ s cells c8 l n. refuses s cells c8 l n;
    complete = rw q complete_at;
  }
    where
      stays : (w : List ℕ) → Belongs t h w → Stays (rig_automaton t) (start t) w
      stays w b = (scenarios_sound (rig_automaton t) h (start t) w ((belongs_listed t h r w).0 b)).1

      told : (w cells : List ℕ) → (Case8 t h cells → ⊥) → Belongs t h w → index t w cells ≡ served (rank (rig_automaton t) (start t) w ∷ [])
      told w cells c8 b =
          let e : length w ≡ h = b.long in
          index_of_scenario t w cells r (λ c. c7 (rw e at c)) (λ c. c8 (rw e at c)) (rw e ge) (rw e lt) (stays w b)

      refuses : (s cells : List ℕ) → (Case8 t h cells → ⊥) → length s ≡ h → (Belongs t h s → ⊥) → Refuses (index t s cells)
      refuses s cells c8 e n =
          index_of_others t s cells r (λ c. c7 (rw e at c)) (λ c. c8 (rw e at c)) (rw e ge) (rw e lt)
          (λ w. n ((belongs_listed t h r s).1 (subst (λ k. In s (counting.scenarios (rig_automaton t) k (start t))) e (scenarios_complete (rig_automaton t) (start t) s w))))

fair-shuffle : (n : ℕ) → Fair generator n
unfolding generator Served
fair-shuffle n = record {
  drawn = λ o s. let (ds, v, q) = sample_drawn n o s in (ds, sym (length-shuffle ds) ∙ ap length q, valid_places n ds v, λ scratch out f. output-is n ds scratch out f ∙ q);
  by_one = λ ds es scratch scratch' out out' f g q. shuffle-one ds es (sym (output-is n ds scratch out f) ∙ q ∙ output-is n es scratch' out' g);
  sampled = λ ds scratch out f. (([], shuffle-served n ds scratch out f), rw (output-is n ds scratch out f) (shuffle_sample n ds (valid-draws n ds f.valid)));
}

-- Demand 3
pub demand_3 : Demand generator
unfolding Once
demand_3 = record {
  finite = λ t h r c7. (counting.scenarios (rig_automaton t) h (start t), distinct-once [] _ (scenarios_distinct (rig_automaton t) (events_distinct t r) h (start t)), λ w. let b = belongs_listed t h r w in (b.1, b.0));
  none = none_said;
  whole = λ t h r c7 L once all ge lt. let q : length L ≡ total t h = listed-length t h r L once all in whole_said t h r c7 (rw q at ge) (rw q at lt) L q;
  fair = fair-shuffle;
}
