-- A step that executes ABSA over the core of a booted image also executes it over the flat memory.
use Rattle.std.proofs.Common.{◌≡◌, refl, sym, ◌∙◌, ap, subst}
use Rattle.std.specs.Prelude.{ℕ, List, Ok}
use Rattle.m36_desc.specs.Fields.{DbrFields}
use Rattle.m36_model.specs.Registers.{RegsFields}
use Rattle.m36_model.specs.Act.{Answer, Act, done, ask}
use Rattle.m36_model.specs.Store.{Spot, State}
use Rattle.m36_model.specs.Core.{core_store}
use Rattle.m36_model.specs.Step.{Ending, program, start_of_step, run_of_step, record_of}
use Rattle.m36_model.specs.Flat.{Flat, flat_store}
use Rattle.m36_model.specs.BootedCore.{booted_dbr, IsLaid}
use Rattle.m36_model.specs.Residence.{PageIsAbsent}
use Rattle.m36_model.specs.PagedStep.{flat_state, ExecutesAbsa}
use Rattle.m36_model.specs.declared.outcome.Fault.{Fault}
use Rattle.m36_model.specs.declared.outcome.Outcome.TheVariants.{Next, Faulted}
use Rattle.m36_isol.proofs.Mirror.{Mirrors, SameButPlace, Asks, EndTwo, AreMids, AreRun, same, lacked, placed_apart, run_mirrors}
use Rattle.m36_isol.proofs.MirrorStep.{EndsSo, StopsSo, EndPlaced, present_at, program_asks}
use Rattle.m36_isol.proofs.Booted.{StandsFor, IsPair, stands_first, booted_mirrors}

-- ---- a program whose values at two places are related in both directions

either_end : {A : Type 0} (R : A → A → Type 0) (m n : Act A) → EndTwo R m n → EndTwo R n m → EndTwo (λ a b. R a b × R b a) m n
either_end R (done a) (done b) h k = (h, k)
either_end R (done a) (ask q next) h k = absurd h
either_end R (ask q next) n h k = absurd h

same_back : (a b : Answer) → SameButPlace a b → SameButPlace b a
same_back a b h = record { sdw = sym h.sdw; words = sym h.words; first = sym h.first }

asks_either : {A : Type 0} (post : A → Type 0) (stop : Fault → A → Type 0) (R : A → A → Type 0) (m : Act A) → Asks post stop R m → Asks post stop (λ a b. R a b × R b a) m
asks_either post stop R (done a) h = h
asks_either post stop R (ask q next) h =
    (h.0, h.1, (λ a. asks_either post stop R (next (Ok a)) (h.2 a)), (λ kind a b near. either_end R (next (Ok a)) (next (Ok b)) (h.3 kind a b near) (h.3 kind b a (same_back a b near))))

-- ---- the step

module _ (frames : ℕ) (kept : ℕ → ℕ → ℕ) (g : RegsFields) (core : List ℕ) (dbr : g.dbr ≡ booted_dbr) (laid : IsLaid core frames) where
  abbrev here : State (List ℕ)
  here = record { regs = g; store = core }

  abbrev there : State Flat
  there = flat_state kept here

  abbrev M : List ℕ → Flat → Type 0
  M now f = StandsFor core frames laid kept now f

  abbrev Pair : Spot → Spot → Type 0
  Pair p q = IsPair core frames laid kept p q

  abbrev Placed : Ending → Ending → Type 0
  Placed e d = EndPlaced g e d × EndPlaced g d e

  mirrors : Mirrors core_store flat_store g.dbr M Pair (PageIsAbsent core)
  mirrors =
      subst (λ (d : DbrFields). Mirrors core_store flat_store d M Pair (PageIsAbsent core)) (sym dbr) (booted_mirrors core frames laid kept)

  begins : AreMids M Pair there.store (start_of_step here) (start_of_step there)
  begins = record { mirrors = stands_first core frames laid kept; still = refl; claims = tt; refs = refl }

  absa_by : AreRun M Pair (PageIsAbsent core) there.store (EndsSo g) (StopsSo g) Placed (run_of_step core_store here) (run_of_step flat_store there) → ExecutesAbsa (record_of core_store here) → ExecutesAbsa (record_of flat_store there)
  unfolding record_of
  absa_by (same value mids post) k =
      record {
        word = k.word;
        fetched = sym (ap (λ (e : Ending). e.word) value) ∙ k.fetched;
        number = k.number;
        does = k.does;
        next = sym (ap (λ (e : Ending). e.outcome) value) ∙ k.next;
      }
  absa_by (lacked fault number lacks stop m) k =
      let ends : Faulted fault ≡ Next = sym stop.outcome ∙ k.next in
      absurd (cc)
  absa_by (placed_apart two mids) k =
      record { word = two.1.word; fetched = two.1.fetched; number = two.1.number; does = two.1.locates; next = two.1.next }

  absa_there : ExecutesAbsa (record_of core_store here) → ExecutesAbsa (record_of flat_store there)
  absa_there =
      absa_by (run_mirrors core_store flat_store g M Pair (PageIsAbsent core) mirrors there.store (EndsSo g) (StopsSo g) Placed (present_at g) (program g) (start_of_step here) (start_of_step there) (asks_either (EndsSo g) (StopsSo g) (EndPlaced g) (program g) (program_asks g)) begins)

pub absa_law :
    (frames : ℕ) (kept : ℕ → ℕ → ℕ) (s : State (List ℕ)) → s.regs.dbr ≡ booted_dbr → IsLaid s.store frames
    → ExecutesAbsa (record_of core_store s) → ExecutesAbsa (record_of flat_store (flat_state kept s))
absa_law frames kept s dbr laid executes = absa_there frames kept s.regs s.store dbr laid executes
