-- The two sinks keep the laws. Assumes nothing.
use Rattle.std.specs.Prelude.{◌≡◌, List, ℕ, length, refl}
use Rattle.std.proofs.Common.{arith, ◌∙◌}
use lib.ListN.{length-append}
use Rattle.line.specs.Placing.{placed-none, placed-more, length-placed}
use Rattle.line.specs.declared.Front.{Front}
use Rattle.line.specs.Sinks.{SinkLaws, count_fits, Counts, front_fits, Fronts}

pub count_laws : SinkLaws count_fits Counts
count_laws = record {
  none = λ a h. omega arith;
  more = λ a b c s t p q. omega (arith, length-append s t);
  room = λ a b s n p h. omega arith;
  fewer = λ a m n le h. omega arith;
}

long : (a b : Front) (s : List ℕ) → Fronts a s b → length b.out.now ≡ length a.out.now
long a b s p = rw p.out (length-placed s a.out.now a.at p.within)

pub front_laws : SinkLaws front_fits Fronts
front_laws = record {
  none = λ a h. record { same = refl; within = omega arith; at = omega arith; out = placed-none a.at a.out.now };
  more = λ a b c s t p q. record {
    same = q.same ∙ p.same;
    within = omega (arith, length-append s t, long a b s p, q.within, p.at);
    at = omega (arith, length-append s t, p.at, q.at);
    out = q.out ∙ rw (p.at, p.out) (placed-more s t a.out.now a.at (omega (arith, p.within)));
  };
  room = λ a b s n p h. omega (arith, long a b s p, p.at);
  fewer = λ a m n le h. omega arith;
}
