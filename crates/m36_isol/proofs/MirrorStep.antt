-- One step over two stores, of which the first may lack words. The program of the step is done
-- after each refusal, with the registers unchanged and nothing to write. It makes no page fault of
-- its own, and asks for a core address only for ABSA.
use Rattle.std.proofs.Common.{◌≡◌, refl, sym, ◌∙◌, ap, subst, inl, inr, ⊎_elim, arith}
use Rattle.std.specs.Prelude.{ℕ, zero, suc, ◌+◌, ◌*◌, ◌/◌, ◌%◌, ◌^◌, ◌<◌, ◌≤◌, ◌≢◌, ◌⊎◌, Bool, true, false, not, ◌&&◌, ◌||◌, ◌==◌, if◌then◌else◌, [], slice_index, Option, Some, None, Result, Ok, Err}
use Rattle.m36_inst.specs.Instruction.{inst_of}
use Rattle.m36_inst.specs.Operands.{operand_of, is_privileged, takes_direct}
use Rattle.m36_inst.specs.declared.effect.Effect.{Effect}
use Rattle.m36_inst.specs.declared.effect.Effect.TheVariants as effect
use Rattle.m36_inst.specs.declared.operand.Operand.{Operand}
use Rattle.m36_inst.specs.declared.operand.Operand.TheVariants as kind
use Rattle.m36_model.specs.Fields.{FinalFields}
use Rattle.m36_model.specs.Registers.{RegsFields}
use Rattle.m36_model.specs.Act.{Part, Whole, Left, Right, Answer, Act, either}
use Rattle.m36_model.specs.Modification.{Point, Move, Ends, Fails, Reads, Counts, ends_at, ends_direct, direct_upper, direct_lower, is_direct, here, halt_at, move_of_point, move_register, move_register_then_indirect, move_indirect_then_tally, move_indirect_then_register, modifier_value}
use Rattle.m36_model.specs.Tally.{indirect_only}
use Rattle.m36_model.specs.FirstPoint.{first_point}
use Rattle.m36_model.specs.Chain.{ChainEnd, Formation, IndirectKind, Its, Itp, Plain, indirect_kind, after_word, after_tally, chain_by, chain_exhausted, chain}
use Rattle.m36_model.specs.Results.{OperandFields, EffectFields}
use Rattle.m36_model.specs.Effect.{exec, is_absa}
use Rattle.m36_model.specs.WordsPut.{words_written}
use Rattle.m36_model.specs.Transfers.{is_taken}
use Rattle.m36_model.specs.Step.{Performed, Operation, operation_result, with_chain_tally, no_operand, reading_word, reading_words, writing, changing, addressing, transferring, calling, operate_by_kind, operate_direct, operate_on, operate, Ending, outcome_of, outcome_by, outcome_after, end_halted, end_completed, operate_and_end, indirect_words, form_and_operate, no_address, execute_admitted, execute_unless_barred, decode, execute_decoded, program}
use Rattle.m36_model.specs.PagedStep.{DifferInA, IsNoPageFault}
use Rattle.m36_model.proofs.Computed.{everything}
use Rattle.m36_model.proofs.PutLaw.{PutsSo, puts_so}
use Rattle.m36_model.specs.declared.outcome.Fault.{Fault}
use Rattle.m36_model.specs.declared.outcome.Halt.{Halt}
use Rattle.m36_model.specs.declared.outcome.Halt.TheVariants as halt
use Rattle.m36_model.specs.declared.outcome.Stop.TheVariants as stop
use Rattle.m36_model.specs.declared.outcome.Outcome.TheVariants.{Next, Faulted}
use Rattle.m36_isol.proofs.Program.{Either}
use Rattle.m36_isol.proofs.Effects.{effect_law}
use Rattle.m36_isol.proofs.Mirror.{Stops, EndTwo, Asks, asks_then}

-- numbers below 16 are not that of a page fault
below : (n : ℕ) → n < 16 → n ≢ 17
below n h e = omega arith

above : (n : ℕ) → 17 < n → n ≢ 17
above n h e = omega arith

-- a refusal by the program itself is not a page fault
abbrev pub OwnHalt : Halt → Type 0
OwnHalt (halt.Fault f) = f.number ≢ 17
OwnHalt (halt.Stop s) = Unit {0}

-- the program is done after a refusal, with its fault
abbrev pub FailsSo : {A : Type 0} → Fault → Result A Halt → Type 0
FailsSo f v = v ≡ Err (halt.Fault f)

abbrev pub NoTwo : {A : Type 0} → A → A → Type 0
NoTwo a b = ⊥

abbrev AnyEnd : ChainEnd → Type 0
AnyEnd c = Unit {0}

-- the moves of a chain
abbrev OwnMove : Move → Type 0
OwnMove (Ends last) = Unit {0}
OwnMove (Fails h) = OwnHalt h
OwnMove (Reads word held) = Unit {0}
OwnMove Counts = Unit {0}

register_tests : (g : RegsFields) (p : Point) (td : ℕ) (upper lower : Bool) → OwnMove (if upper then ends_direct p (p.y * 2 ^ 18) else if lower then ends_direct p p.y else ends_at p ((p.y + modifier_value g td) % 2 ^ 18))
register_tests g p td true lower = tt
register_tests g p td false true = tt
register_tests g p td false false = tt

register_owns : (g : RegsFields) (p : Point) (td : ℕ) (held : Option ℕ) → OwnMove (move_register g p td held)
register_owns g p td (Some held) = tt
register_owns g p td None = register_tests g p td (td == direct_upper) (td == direct_lower)

direct_tests : (g : RegsFields) (direct : Bool) (word : ℕ) (held : Option ℕ) → OwnMove (if direct then Fails (halt_at 10 (here g)) else Reads word held)
direct_tests g true word held = below 10 (omega arith)
direct_tests g false word held = tt

tally_tests : (a b c d e : Bool) (h i j k l : Halt) → OwnHalt h → OwnHalt i → OwnHalt j → OwnHalt k → OwnHalt l → OwnMove (if a then Fails h else if b then Fails i else if c then Fails j else if d then Fails k else if e then Counts else Fails l)
tally_tests true b c d e h i j k l x y z u v = x
tally_tests false true c d e h i j k l x y z u v = y
tally_tests false false true d e h i j k l x y z u v = z
tally_tests false false false true e h i j k l x y z u v = u
tally_tests false false false false true h i j k l x y z u v = tt
tally_tests false false false false false h i j k l x y z u v = v

tag_tests : (g : RegsFields) (p : Point) (td : ℕ) (a b c : Bool) → OwnMove (if a then move_register g p td p.held else if b then move_register_then_indirect g p td else if c then move_indirect_then_tally g p td else move_indirect_then_register g p td)
tag_tests g p td true b c = register_owns g p td p.held
tag_tests g p td false true c = direct_tests g (is_direct td) _ _
tag_tests g p td false false true =
    tally_tests (td == 0o0) (td == 0o6) (td == 0o7) ((td == 0o1) || (td == 0o3)) ((td == 0o4) || (td == 0o11) || (td == 0o13) || (td == 0o14) || (td == 0o16)) _ _ _ _ _ (below 3 (omega arith)) (above 24 (omega arith)) (above 25 (omega arith)) (below 10 (omega arith)) tt
tag_tests g p td false false false = direct_tests g (is_direct td) _ _

move_owns : (g : RegsFields) (p : Point) → OwnMove (move_of_point g p)
unfolding move_of_point
move_owns g p = tag_tests g p (p.tag % 16) (p.tag / 16 == 0) (p.tag / 16 == 1) (p.tag / 16 == 2)

module _ (g : RegsFields) where
  abbrev AsksChain : Formation → Type 0
  AsksChain m = Asks (Either AnyEnd OwnHalt) FailsSo NoTwo m

  one : 1 ≤ 1
  one = omega arith

  exhausted_asks : (p : Point) (m : Move) → OwnMove m → AsksChain (chain_exhausted p m)
  exhausted_asks p (Ends last) own = tt
  exhausted_asks p (Fails h) own = own
  exhausted_asks p (Reads word held) own = below 7 (omega arith)
  exhausted_asks p Counts own = below 7 (omega arith)

  word_asks : (next : Point → Formation) → ((p : Point) → AsksChain (next p)) → (p : Point) (word : ℕ) (held : Option ℕ) (a : Answer) (f : IndirectKind) → AsksChain (after_word next g p word held a f)
  word_asks next h p word held a Plain = h _
  word_asks next h p word held a Its = (one, (λ f. refl), (λ b. h _), (λ k x y same. absurd cc))
  word_asks next h p word held a Itp = (one, (λ f. refl), (λ b. h _), (λ k x y same. absurd cc))

  tally_asks : (p : Point) (td : ℕ) (a : Answer) (only : Bool) → AsksChain (after_tally p td a only)
  tally_asks p td a true = tt
  tally_asks p td a false = (one, (λ f. refl), (λ b. tt), (λ k x y same. absurd cc))

  move_asks : (next : Point → Formation) → ((p : Point) → AsksChain (next p)) → (p : Point) (m : Move) → OwnMove m → AsksChain (chain_by next g p m)
  move_asks next h p (Ends last) own = tt
  move_asks next h p (Fails k) own = own
  move_asks next h p (Reads word held) own =
      (one, (λ f. refl), (λ a. word_asks next h p word held a (indirect_kind word (slice_index a.words 0))), (λ k x y same. absurd cc))
  move_asks next h p Counts own =
      (one, (λ f. refl), (λ a. tally_asks p (p.tag % 16) a (p.tag % 16 == indirect_only)), (λ k x y same. absurd cc))

  chain_asks : (n : ℕ) (p : Point) → AsksChain (chain n g p)
  unfolding chain
  chain_asks zero p = exhausted_asks p (move_of_point g p) (move_owns g p)
  chain_asks (suc n) p = move_asks (chain n g) (chain_asks n) p (move_of_point g p) (move_owns g p)

  -- the DBR after an operation
  abbrev pub LeavesDbr : Effect → Performed → Type 0
  LeavesDbr e p = (p.regs.dbr ≡ g.dbr) ⊎ ((e ≡ effect.Ldbr) × (p.overflow ≡ false))

  -- two ABSA that got different core addresses
  pub record ArePlaced (e : Effect) (v w : Result Performed Halt) : Type 0 where
    pub p : Performed
    pub q : Performed
    pub is : v ≡ Ok p
    pub other : w ≡ Ok q
    pub absa : e ≡ effect.Absa
    pub regs : DifferInA p.regs q.regs
    pub puts : p.puts ≡ q.puts
    pub dbr : p.regs.dbr ≡ g.dbr
    pub quiet : (p.overflow ≡ false) × (q.overflow ≡ false)

  abbrev AsksOperation : Effect → Operation → Type 0
  AsksOperation e m = Asks (Either (LeavesDbr e) OwnHalt) FailsSo (ArePlaced e) m

  effect_by : (e : Effect) (n : ℕ) (c : ChainEnd) (part : Part) (first : ℕ) (o : OperandFields) (v : Result EffectFields ℕ) → exec e n (with_chain_tally g c) c.last o ≡ v → PutsSo (words_written (operand_of e)) v → Either (LeavesDbr e) OwnHalt (operation_result g c part first v)
  unfolding with_chain_tally
  effect_by e n c part first o (Err number) h k = below number k
  effect_by e n c part first o (Ok x) h k = (effect_law e n (with_chain_tally g c) c.last o x h).dbr

  performed_asks : (e : Effect) (n : ℕ) (c : ChainEnd) (part : Part) (first : ℕ) (o : OperandFields) → Either (LeavesDbr e) OwnHalt (operation_result g c part first (exec e n (with_chain_tally g c) c.last o))
  performed_asks e n c part first o =
      effect_by e n c part first o (exec e n (with_chain_tally g c) c.last o) refl (puts_so e n (with_chain_tally g c) c.last o)

  reading_asks : (e : Effect) (n : ℕ) (c : ChainEnd) → AsksOperation e (reading_word e n g c)
  reading_asks e n c =
      (one, (λ f. refl), (λ a. performed_asks e n c Whole 0 _), (λ k x y same. absurd cc))

  readings_ask : (e : Effect) (n : ℕ) (c : ChainEnd) (count : ℕ) → 1 ≤ count → AsksOperation e (reading_words e n g c count)
  readings_ask e n c count some =
      (some, (λ f. refl), (λ a. performed_asks e n c Whole 0 _), (λ k x y same. absurd cc))

  writing_asks : (e : Effect) (n : ℕ) (c : ChainEnd) (count : ℕ) (part : Part) → 1 ≤ count → AsksOperation e (writing e n g c count part)
  writing_asks e n c count part some =
      (some, (λ f. refl), (λ a. performed_asks e n c part a.first no_operand), (λ k x y same. absurd cc))

  changing_asks : (e : Effect) (n : ℕ) (c : ChainEnd) (part : Part) → AsksOperation e (changing e n g c part)
  changing_asks e n c part =
      (one, (λ f. refl), (λ a. (one, (λ f. refl), (λ b. performed_asks e n c part b.first _), (λ k x y same. absurd cc))), (λ k x y same. absurd cc))

  absa_is : (e : Effect) → is_absa e ≡ true → e ≡ effect.Absa
  absa_is effect.Absa h = refl
  absa_is _ h = cc

  two_places : (n : ℕ) (c : ChainEnd) (a b : ℕ) → ArePlaced effect.Absa (operation_result g c Whole 0 (exec effect.Absa n (with_chain_tally g c) c.last (record { got = []; ring = 0; place = a }))) (operation_result g c Whole 0 (exec effect.Absa n (with_chain_tally g c) c.last (record { got = []; ring = 0; place = b })))
  unfolding everything
  two_places n c a b =
      record {
        p = _;
        q = _;
        is = refl;
        other = refl;
        absa = refl;
        regs = record { others = refl };
        puts = refl;
        dbr = refl;
        quiet = (refl, refl);
      }

  placed_two : (e : Effect) → e ≡ effect.Absa → (n : ℕ) (c : ChainEnd) (a b : ℕ) → ArePlaced e (operation_result g c Whole 0 (exec e n (with_chain_tally g c) c.last (record { got = []; ring = 0; place = a }))) (operation_result g c Whole 0 (exec e n (with_chain_tally g c) c.last (record { got = []; ring = 0; place = b })))
  placed_two e is n c a b =
      subst (λ (x : Effect). ArePlaced x (operation_result g c Whole 0 (exec x n (with_chain_tally g c) c.last (record { got = []; ring = 0; place = a }))) (operation_result g c Whole 0 (exec x n (with_chain_tally g c) c.last (record { got = []; ring = 0; place = b })))) (sym is) (two_places n c a b)

  addressing_asks : (e : Effect) (n : ℕ) (c : ChainEnd) (place : Bool) → is_absa e ≡ place → AsksOperation e (addressing e n g c place)
  addressing_asks e n c false h = performed_asks e n c Whole 0 no_operand
  addressing_asks e n c true h =
      (one, (λ f. refl), (λ a. performed_asks e n c Whole 0 _), (λ k a b same. placed_two e (absa_is e h) n c a.place b.place))

  transferring_asks : (e : Effect) (n : ℕ) (c : ChainEnd) (taken : Bool) → AsksOperation e (transferring e n g c taken)
  transferring_asks e n c false = performed_asks e n c Whole 0 no_operand
  transferring_asks e n c true =
      (one, (λ f. refl), (λ a. performed_asks e n c Whole 0 no_operand), (λ k x y same. absurd cc))

  calling_asks : (e : Effect) (n : ℕ) (c : ChainEnd) → AsksOperation e (calling e n g c)
  calling_asks e n c =
      (one, (λ f. refl), (λ a. performed_asks e n c Whole 0 _), (λ k x y same. absurd cc))

  kind_asks : (e : Effect) (n : ℕ) (c : ChainEnd) (k : Operand) → AsksOperation e (operate_by_kind e n g c k)
  kind_asks e n c kind.R = reading_asks e n c
  kind_asks e n c kind.R2 = readings_ask e n c 2 (omega arith)
  kind_asks e n c kind.R16 = readings_ask e n c 16 (omega arith)
  kind_asks e n c kind.W = writing_asks e n c 1 Whole (omega arith)
  kind_asks e n c kind.W2 = writing_asks e n c 2 Whole (omega arith)
  kind_asks e n c kind.W16 = writing_asks e n c 16 Whole (omega arith)
  kind_asks e n c kind.Wl = writing_asks e n c 1 Left (omega arith)
  kind_asks e n c kind.Wr = writing_asks e n c 1 Right (omega arith)
  kind_asks e n c kind.Rw = changing_asks e n c Whole
  kind_asks e n c kind.Rwl = changing_asks e n c Left
  kind_asks e n c kind.A = addressing_asks e n c (is_absa e) refl
  kind_asks e n c kind.T = transferring_asks e n c (is_taken e (with_chain_tally g c))
  kind_asks e n c kind.N = performed_asks e n c Whole 0 no_operand
  kind_asks e n c kind.Call6 = calling_asks e n c

  direct_asks : (e : Effect) (n : ℕ) (c : ChainEnd) (w : ℕ) (t : Bool) → AsksOperation e (operate_direct e n g c w t)
  direct_asks e n c w true = performed_asks e n c Whole 0 _
  direct_asks e n c w false = below 10 (omega arith)

  on_asks : (e : Effect) (n : ℕ) (c : ChainEnd) (direct : Option ℕ) → AsksOperation e (operate_on e n g c direct)
  on_asks e n c None = kind_asks e n c (operand_of e)
  on_asks e n c (Some w) = direct_asks e n c w (takes_direct e)

  operate_asks : (e : Effect) (n : ℕ) (c : ChainEnd) → AsksOperation e (operate e n g c)
  unfolding operate
  operate_asks e n c = on_asks e n c c.last.direct

  -- the result of a step's program: no page fault of its own, and only LDBR changes the DBR
  pub record EndsWithLdbr (e : Ending) : Type 0 where
    pub word : ℕ
    pub fetched : e.word ≡ Some word
    pub number : ℕ
    pub loads : decode word ≡ Some (effect.Ldbr, number)
    pub next : e.outcome ≡ Next

  pub record EndsSo (e : Ending) : Type 0 where
    pub present : IsNoPageFault e.outcome
    pub dbr : (e.after.dbr ≡ g.dbr) ⊎ EndsWithLdbr e

  -- after a refusal: the registers are unchanged, nothing is to be written, and the outcome is the
  -- fault
  pub record StopsSo (f : Fault) (e : Ending) : Type 0 where
    pub after : e.after ≡ g
    pub puts : e.puts ≡ []
    pub outcome : e.outcome ≡ Faulted f

  -- the ends of two ABSA that got different core addresses
  pub record EndPlaced (e d : Ending) : Type 0 where
    pub word : ℕ
    pub fetched : e.word ≡ Some word
    pub number : ℕ
    pub locates : decode word ≡ Some (effect.Absa, number)
    pub next : e.outcome ≡ Next
    pub puts : e.puts ≡ d.puts
    pub regs : DifferInA e.after d.after
    pub dbr : e.after.dbr ≡ g.dbr

  abbrev pub AsksStep : Act Ending → Type 0
  AsksStep m = Asks EndsSo StopsSo EndPlaced m

  pub present_at : (f : Fault) (e : Ending) → f.number ≢ 17 → StopsSo f e → EndsSo e
  present_at f e other h =
      record { present = subst IsNoPageFault (sym h.outcome) other; dbr = inl (ap (λ (r : RegsFields). r.dbr) h.after) }

  own_present : (h : Halt) → OwnHalt h → IsNoPageFault (outcome_of h)
  own_present (halt.Fault f) k = k
  own_present (halt.Stop s) k = tt

  halted_asks : (word : Option ℕ) (at : Option FinalFields) (h : Halt) → OwnHalt h → AsksStep (end_halted g word at h)
  halted_asks word at h own = record { present = own_present h own; dbr = inl refl }

  overflow_present : (b : Bool) → IsNoPageFault (outcome_by b g)
  overflow_present true = below 13 (omega arith)
  overflow_present false = tt

  next_by : (overflow mask : Bool) → overflow ≡ false → outcome_after overflow mask g ≡ Next
  next_by true mask h = cc
  next_by false mask h = refl

  completed_asks : (e : Effect) (n w : ℕ) (c : ChainEnd) (p : Performed) → decode w ≡ Some (e, n) → LeavesDbr e p → AsksStep (end_completed g w c.last p)
  completed_asks e n w c p row h =
      record {
        present = overflow_present (p.overflow && not p.regs.ind.mask);
        dbr = ⊎_elim (λ same. inl same) (λ loads. inr (record { word = w; fetched = refl; number = n; loads = row ∙ ap (λ (x : Effect). Some (x, n)) loads.0; next = next_by p.overflow _ loads.1 })) h;
      }

  ended_asks : (e : Effect) (n w : ℕ) (c : ChainEnd) → decode w ≡ Some (e, n) → (v : Result Performed Halt) → Either (LeavesDbr e) OwnHalt v → AsksStep (either (end_completed g w c.last) (end_halted g (Some w) (Some c.last)) v)
  ended_asks e n w c row (Ok p) h = completed_asks e n w c p row h
  ended_asks e n w c row (Err k) h = halted_asks (Some w) (Some c.last) k h

  stopped_by : {A : Type 0} (ok : A → Act Ending) (word : Option ℕ) (at : Option FinalFields) (f : Fault) (v : Result A Halt) → FailsSo f v → Stops StopsSo f (either ok (end_halted g word at) v)
  stopped_by ok word at f v h = rw h (record { after = refl; puts = refl; outcome = refl })

  placed_ends : (e : Effect) (n w : ℕ) (c : ChainEnd) → decode w ≡ Some (e, n) → (v v' : Result Performed Halt) → ArePlaced e v v' → EndTwo EndPlaced (either (end_completed g w c.last) (end_halted g (Some w) (Some c.last)) v) (either (end_completed g w c.last) (end_halted g (Some w) (Some c.last)) v')
  placed_ends e n w c row v v' h =
      rw (h.is, h.other) (record {
        word = w;
        fetched = refl;
        number = n;
        locates = row ∙ ap (λ (x : Effect). Some (x, n)) h.absa;
        next = next_by h.p.overflow _ h.quiet.0;
        puts = h.puts;
        regs = h.regs;
        dbr = h.dbr;
      })

  operated_asks : (e : Effect) (n w : ℕ) (c : ChainEnd) → decode w ≡ Some (e, n) → AsksStep (operate_and_end e n g w c)
  operated_asks e n w c row =
      asks_then (Either (LeavesDbr e) OwnHalt) FailsSo (ArePlaced e) EndsSo StopsSo EndPlaced (operate e n g c) _ (operate_asks e n c) (ended_asks e n w c row) (stopped_by (end_completed g w c.last) (Some w) (Some c.last)) (placed_ends e n w c row)

  formed_asks : (e : Effect) (n w : ℕ) → decode w ≡ Some (e, n) → (v : Result ChainEnd Halt) → Either AnyEnd OwnHalt v → AsksStep (either (operate_and_end e n g w) (end_halted g (Some w) None) v)
  formed_asks e n w row (Ok c) h = operated_asks e n w c row
  formed_asks e n w row (Err k) h = halted_asks (Some w) None k h

  addressed_asks : (e : Effect) (n w : ℕ) → decode w ≡ Some (e, n) → AsksStep (form_and_operate e n g w)
  addressed_asks e n w row =
      asks_then (Either AnyEnd OwnHalt) FailsSo NoTwo EndsSo StopsSo EndPlaced (chain indirect_words g (first_point g (inst_of w))) _ (chain_asks indirect_words (first_point g (inst_of w))) (formed_asks e n w row) (stopped_by (operate_and_end e n g w) (Some w) None) (λ a b none. absurd none)

  no_address_asks : (e : Effect) (w : ℕ) → AsksStep (no_address e g w)
  no_address_asks effect.Mme w = halted_asks (Some w) None (halt_at 2 (here g)) (below 2 (omega arith))
  no_address_asks effect.Drl w = halted_asks (Some w) None (halt_at 6 (here g)) (below 6 (omega arith))
  no_address_asks _ w = halted_asks (Some w) None (halt.Stop stop.Dis) tt

  started_asks : (e : Effect) (n w : ℕ) → decode w ≡ Some (e, n) → (k : Operand) → AsksStep (execute_admitted e n g w k)
  started_asks e n w row kind.N = no_address_asks e w
  started_asks e n w row _ = addressed_asks e n w row

  admitted_asks : (e : Effect) (n w : ℕ) → decode w ≡ Some (e, n) → (b : Bool) → AsksStep (execute_unless_barred e n g w b)
  admitted_asks e n w row true = halted_asks (Some w) None (halt_at 10 (here g)) (below 10 (omega arith))
  admitted_asks e n w row false = started_asks e n w row (operand_of e)

  decoded_asks : (w : ℕ) (right : Bool) (row : Option (Effect × ℕ)) → decode w ≡ row → AsksStep (execute_decoded g w right row)
  decoded_asks w right None e = halted_asks (Some w) None (halt.Stop stop.Operation) tt
  decoded_asks w right (Some row) e = admitted_asks row.0 row.1 w e (is_privileged row.0 && not right)

  -- the program of a step
  pub program_asks : AsksStep (program g)
  unfolding program
  program_asks =
      (one, (λ f. record { after = refl; puts = refl; outcome = refl }), (λ a. decoded_asks (slice_index a.words 0) _ (decode (slice_index a.words 0)) refl), (λ k x y same. absurd cc))
