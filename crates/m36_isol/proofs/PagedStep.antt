-- A step over the core of a booted image: it is the flat step, or a page fault, or an ABSA.
use Rattle.std.proofs.Common.{◌≡◌, refl, sym, ◌∙◌, ap, subst, inl, inr, ⊎_elim}
use Rattle.std.specs.Prelude.{ℕ, ◌⊎◌, List, []}
use Rattle.m36_desc.specs.Fields.{DbrFields}
use Rattle.m36_model.specs.Registers.{RegsFields}
use Rattle.m36_model.specs.Act.{Put}
use Rattle.m36_model.specs.Store.{Spot, Midstep, ProgramResult, State, changes}
use Rattle.m36_model.specs.Core.{core_store, core_put}
use Rattle.m36_model.specs.Laws.{ExecutesLdbr}
use Rattle.m36_model.specs.Step.{Ending, program, start_of_step, run_of_step, step_record, state_after_run, record_of, state_after}
use Rattle.m36_model.specs.Flat.{Flat, flat_put, flat_store}
use Rattle.m36_model.specs.BootedCore.{booted_dbr, IsLaid}
use Rattle.m36_model.specs.Residence.{PageIsAbsent}
use Rattle.m36_model.specs.PagedStep.{flat_state, IsFlatStep, IsPageFault, IsAbsaStep, IsPagedStep, PagedStepLaw}
use Rattle.m36_model.proofs.StepLaw.{core_quiet}
use Rattle.m36_isol.proofs.Mirror.{Mirrors, AreMids, AreRun, same, lacked, placed_apart, paired_changes, run_mirrors}
use Rattle.m36_isol.proofs.MirrorStep.{EndsSo, EndsWithLdbr, StopsSo, EndPlaced, present_at, program_asks}
use Rattle.m36_isol.proofs.Booted.{StandsFor, IsPair, flat_back, stands_first, same_page_word, still_laid, booted_mirrors}

no_changes : (claims : List Spot) → changes claims [] ≡ []
unfolding changes
no_changes claims = refl

module _ (frames : ℕ) (kept : ℕ → ℕ → ℕ) (g : RegsFields) (core : List ℕ) (dbr : g.dbr ≡ booted_dbr) (laid : IsLaid core frames) where
  abbrev here : State (List ℕ)
  here = record { regs = g; store = core }

  abbrev there : State Flat
  there = flat_state kept here

  abbrev M : List ℕ → Flat → Type 0
  M now f = StandsFor core frames laid kept now f

  abbrev Pair : Spot → Spot → Type 0
  Pair p q = IsPair core frames laid kept p q

  mirrors : Mirrors core_store flat_store g.dbr M Pair (PageIsAbsent core)
  mirrors =
      subst (λ (d : DbrFields). Mirrors core_store flat_store d M Pair (PageIsAbsent core)) (sym dbr) (booted_mirrors core frames laid kept)

  begins : AreMids M Pair there.store (start_of_step here) (start_of_step there)
  begins = record { mirrors = stands_first core frames laid kept; still = refl; claims = tt; refs = refl }

  -- what holds of a core that represents a flat memory
  keeps : (kept_so : (now : List ℕ) (f : Flat) → M now f → IsFlatStep kept here ⊎ IsPageFault kept here ⊎ IsAbsaStep kept here) → (f : Flat) → M (state_after core_store here).store f → IsPagedStep frames kept here
  keeps cases f m =
      record {
        cases = cases (state_after core_store here).store f m;
        laid = still_laid core frames laid (state_after core_store here).store m.matching;
        descriptors = m.low;
        pages = λ seg page p. same_page_word core frames laid (state_after core_store here).store m.matching seg page p;
      }

  -- both steps write the same words
  puts_alike : (x : Midstep (List ℕ)) (y : Midstep Flat) → AreMids M Pair there.store x y → (puts others : List Put) → puts ≡ others → M (core_put x.store (changes x.claims puts)) (flat_put y.store (changes y.claims others))
  puts_alike x y k puts others e =
      let pairs = paired_changes Pair x.claims y.claims k.claims puts in
      subst (λ (l : List Put). M (core_put x.store (changes x.claims puts)) (flat_put y.store (changes y.claims l))) e (mirrors.put x.store y.store k.mirrors (changes x.claims puts) (changes y.claims puts) pairs)

  ldbr_of : (x : ProgramResult Ending (List ℕ)) → EndsWithLdbr g x.value → ExecutesLdbr (step_record g x)
  ldbr_of x k = record { word = k.word; fetched = k.fetched; number = k.number; does = k.loads; next = k.next }

  by_run : AreRun M Pair (PageIsAbsent core) there.store (EndsSo g) (StopsSo g) (EndPlaced g) (run_of_step core_store here) (run_of_step flat_store there) → IsPagedStep frames kept here
  unfolding record_of state_after
  by_run (same value mids post) =
      let x = run_of_step core_store here in
      let y = run_of_step flat_store there in
      let m = puts_alike x.mid y.mid mids x.value.puts y.value.puts (ap (λ (e : Ending). e.puts) value) in
      let store = flat_back core frames laid kept (state_after core_store here).store _ m in
      let refs = mids.refs in
      let told : step_record g x ≡ step_record g y = λ i. record {
        ppr = g.ppr;
        word = (value i).word;
        at = (value i).at;
        refs = record { items = refs i };
        after = (value i).after;
        outcome = (value i).outcome;
      } in
      let state : flat_state kept (state_after_run core_store x) ≡ state_after_run flat_store y = λ i. record { regs = (value i).after; store = store i } in
      keeps (λ now f k. inl (record { told = told; state = state; present = post.present; dbr = ⊎_elim (λ e. inl (e ∙ dbr)) (λ k. inr (ldbr_of x k)) post.dbr })) _ m
  by_run (lacked fault number lacks stop m) =
      let x = run_of_step core_store here in
      let puts = stop.puts in
      let claims = x.mid.claims in
      let nothing : changes claims x.value.puts ≡ [] = ap (changes claims) puts ∙ no_changes claims in
      let left : core_put x.mid.store (changes claims x.value.puts) ≡ x.mid.store = ap (core_put x.mid.store) nothing ∙ core_quiet x.mid.store in
      let m' : M (core_put x.mid.store (changes claims x.value.puts)) there.store = subst (λ (l : List ℕ). M l there.store) (sym left) m in
      let store = flat_back core frames laid kept _ there.store m' in
      let after = stop.after in
      let state : flat_state kept (state_after_run core_store x) ≡ there = λ i. record { regs = after i; store = store i } in
      keeps (λ now f k. inr (inl (record { fault = fault; outcome = stop.outcome; number = number; lacks = lacks; state = state }))) there.store m'
  by_run (placed_apart two mids) =
      let x = run_of_step core_store here in
      let y = run_of_step flat_store there in
      let m = puts_alike x.mid y.mid mids x.value.puts y.value.puts two.puts in
      let store = flat_back core frames laid kept (state_after core_store here).store _ m in
      keeps (λ now f k. inr (inr (record {
        executes = record { word = two.word; fetched = two.fetched; number = two.number; does = two.locates; next = two.next };
        store = store;
        regs = two.regs;
        dbr = two.dbr ∙ dbr;
      }))) _ m

  paged_step : IsPagedStep frames kept here
  paged_step =
      by_run (run_mirrors core_store flat_store g M Pair (PageIsAbsent core) mirrors there.store (EndsSo g) (StopsSo g) (EndPlaced g) (present_at g) (program g) (start_of_step here) (start_of_step there) (program_asks g) begins)

pub paged_step_law : PagedStepLaw
paged_step_law frames kept s dbr laid = paged_step frames kept s.regs s.store dbr laid
