-- A run of plain turns, and any run from a system with the same flat state, make the same turns and end the same way.
use Rattle.std.proofs.Common.{◌≡◌, ℕ, ◌+◌, ◌≤◌, Bool, false, ◌⊎◌, List, [], ◌∷◌, ◌++◌, length, refl, sym, ap, subst}
use Rattle.std.proofs.Common.{◌∙◌, arith, inl, inr}
use Rattle.m36_model.specs.StoreLaw.{Each}
use Rattle.m36_model.specs.Flat.{flat_store}
use Rattle.m36_model.specs.Step.{record_of}
use Rattle.m36_model.specs.declared.endings.End.{End}
use Rattle.m36_model.specs.declared.record.StepRecord.{StepRecord}
use Rattle.m36_step.specs.declared.turns.Turn.{Turn}
use Rattle.m36_step.specs.declared.turns.Turn.TheVariants.{Stepped, Linked, Console, Ended, Full, NoMemory}
use Rattle.m36_super.specs.Library.{Library}
use Rattle.m36_super.specs.declared.next_event.NextEvent.{NextEvent}
use Rattle.m36_super.specs.declared.next_event.NextEvent.TheVariants.{Step, Link, Print, Over}
use Rattle.m36_super.specs.FlatRun.{FlatRun, FlatTurn, flat_step_turn, flat_turn_by, flat_turn}
use Rattle.m36_super.specs.BootedRun.{Booted, IsTurn, AreTurns, LaidOutUntilLdbr, flat_run_of}
use Rattle.m36_super.specs.TurnLaws.{TurnExecutesAbsa, IsFlatTurn, IsPlainTurn}
use Rattle.m36_super.proofs.Turns.{turn_law}
use Rattle.m36_super.proofs.Audited.{flat_loaded, not_located, plain_flat}
use Rattle.cmd_folder.specs.declared.finish.Finish.{Finish}
use Rattle.cmd_folder.specs.declared.finish.Finish.TheVariants as finish
use Rattle.cmd_folder.specs.RunText.{turn_step_count, turns_step_count}
use Rattle.cmd_folder.specs.Runs.{IsEvent, Finishes}
use Rattle.cmd_folder.specs.BootedLaw.{HasMemory}

-- ---- a plain turn is that of the flat run

-- a state of a run in which no LDBR was executed, with the invariant of such states
pub record IsFresh (lib : Library) (r : Booted) : Type 0 where
  pub loaded : r.loaded ≡ false
  pub stands : LaidOutUntilLdbr false lib.catalog.frames r.state

record Goes (lib : Library) (r : Booted) (turn : Turn) (mid : Booted) : Type 0 where
  pub flat : IsFlatTurn lib r turn mid
  pub fresh : IsFresh lib mid

goes :
    (lib : Library) (r : Booted) (turn : Turn) (mid : Booted) → IsFresh lib r → IsTurn lib r turn mid
    → IsPlainTurn turn → Goes lib r turn mid
goes lib r turn mid fresh is plain =
    let kept = turn_law lib r turn mid fresh.loaded fresh.stands is in
    let flat = plain_flat lib r turn mid plain kept.cases in
    let next : mid.loaded ≡ false = ap (λ (s : FlatRun). s.loaded) flat.after_is ∙ flat_loaded lib
    (flat_run_of r) fresh.loaded (subst IsPlainTurn flat.turn_is plain) in
    record {
      flat = flat;
      fresh = record {
        loaded = next;
        stands = subst
            (λ (b : Bool). LaidOutUntilLdbr b lib.catalog.frames mid.state) next kept.stands;
      };
    }

-- A turn that is made is that of the flat run, or both execute ABSA.
abbrev IsLikeFlat : Turn → Turn → Type 0
IsLikeFlat turn flat = (turn ≡ flat) ⊎ (TurnExecutesAbsa turn × TurnExecutesAbsa flat)

like_by :
    (lib : Library) (r : Booted) (turn : Turn) (mid : Booted) → HasMemory turn
    → (TurnExecutesAbsa turn → TurnExecutesAbsa (flat_turn lib (flat_run_of r)).turn)
    → (IsFlatTurn lib r turn mid ⊎ ((turn ≡ NoMemory) × (mid ≡ r)) ⊎ TurnExecutesAbsa turn)
    → IsLikeFlat turn (flat_turn lib (flat_run_of r)).turn
like_by lib r turn mid has locates (inl h) = inl h.turn_is
like_by lib r turn mid has locates (inr (inl h)) = absurd (has h.0)
like_by lib r turn mid has locates (inr (inr h)) = inr (h, locates h)

like_flat :
    (lib : Library) (r : Booted) (turn : Turn) (mid : Booted) → IsFresh lib r → IsTurn lib r turn mid → HasMemory turn
    → IsLikeFlat turn (flat_turn lib (flat_run_of r)).turn
like_flat lib r turn mid fresh is has =
    let kept = turn_law lib r turn mid fresh.loaded fresh.stands is in
    like_by lib r turn mid has kept.locates kept.cases

event_has : (turn : Turn) → IsEvent turn → HasMemory turn
event_has turn event e = subst IsEvent e event

-- If a flat turn is plain, a turn like it is plain too.
plain_like : (turn other flat : Turn) → turn ≡ flat → IsPlainTurn turn → IsLikeFlat other flat → IsPlainTurn other
plain_like turn other flat is plain (inl h) = subst IsPlainTurn (is ∙ sym h) plain
plain_like turn other flat is plain (inr h) = absurd (not_located turn (subst TurnExecutesAbsa (sym is) h.1) plain)

-- ---- what comes next

-- If a step is next, the flat turn is a step.
steps_next :
    (next_event : NextEvent) (lib : Library) (r : FlatRun) → next_event ≡ Step
    → (e : StepRecord) × ((flat_turn_by next_event lib r).turn ≡ Stepped e)
unfolding flat_step_turn
steps_next Step lib r is = (record_of flat_store r.state, refl)
steps_next (Link at) lib r is = absurd (cc)
steps_next Print lib r is = absurd (cc)
steps_next (Over e) lib r is = absurd (cc)

next_is : (lib : Library) (r : FlatRun) → r.next_event ≡ Step → (e : StepRecord) × ((flat_turn lib r).turn ≡ Stepped e)
unfolding flat_turn
next_is lib r is = steps_next r.next_event lib r is

-- A turn that reports an end is the flat turn.
end_told :
    (lib : Library) (r : Booted) (e : End) (after : Booted) → IsFresh lib r → IsTurn lib r (Ended e) after
    → Ended e ≡ (flat_turn lib (flat_run_of r)).turn
end_told lib r e after fresh is = (goes lib r (Ended e) after fresh is tt).flat.turn_is

-- ---- two runs, of systems over two libraries whose flat turns are alike

abbrev pub AreAlike : Library → Library → Type 0
AreAlike lib other = (r : FlatRun) → flat_turn lib r ≡ flat_turn other r

abbrev pub Look : Booted → Booted → Type 0
Look r s = flat_run_of r ≡ flat_run_of s

next_alike :
    (lib other : Library) (r s : Booted) → AreAlike lib other → Look r s
    → flat_turn lib (flat_run_of r) ≡ flat_turn other (flat_run_of s)
next_alike lib other r s alike look = alike (flat_run_of r) ∙ ap (flat_turn other) look

-- A run of `taken` steps finishes so.
abbrev Ends : Finish → Library → ℕ → ℕ → Booted → Type 0
Ends (finish.Over e) lib limit taken last = (after : Booted) × IsTurn lib last (Ended e) after
Ends finish.Limit lib limit taken last = (taken ≡ limit) × (last.next_event ≡ Step)

finished :
    (how : Finish) (lib : Library) (limit : ℕ) (turns : List Turn) (last : Booted) → Finishes how lib limit turns last
    → Ends how lib limit (turns_step_count turns) last
finished (finish.Over e) lib limit turns last is = is
finished finish.Limit lib limit turns last is = is

no_end_and_step : (e : End) (told : StepRecord) (turn : Turn) → Ended e ≡ turn → turn ≡ Stepped told → ⊥
no_end_and_step e told turn a b = let c : Ended e ≡ Stepped told = a ∙ b in absurd (cc)

-- Two runs that both end here end the same way.
ends_one :
    (lib other : Library) (limit taken taken' : ℕ) (r s : Booted) (how end : Finish)
    → AreAlike lib other → Look r s → IsFresh lib r → IsFresh other s
    → Ends how lib limit taken r → Ends end other limit taken' s → how ≡ end
ends_one lib other limit taken taken' r s (finish.Over e) (finish.Over f) alike look fresh fresh' is is' =
    let same : Ended e ≡ Ended f =
    end_told lib r e is.0 fresh is.1 ∙ ap (λ (t : FlatTurn). t.turn) (next_alike lib other r s alike look) ∙ sym
    (end_told other s f is'.0 fresh' is'.1) in
    cc
ends_one lib other limit taken taken' r s (finish.Over e) finish.Limit alike look fresh fresh' is is' =
    let next = next_is other (flat_run_of s) is'.1 in
    absurd (no_end_and_step e next.0 _ (end_told lib r e is.0 fresh is.1)
    (ap (λ (t : FlatTurn). t.turn) (next_alike lib other r s alike look) ∙ next.1))
ends_one lib other limit taken taken' r s finish.Limit (finish.Over f) alike look fresh fresh' is is' =
    let next = next_is lib (flat_run_of r) is.1 in
    absurd (no_end_and_step f next.0 _ (end_told other s f is'.0 fresh' is'.1)
    (sym (ap (λ (t : FlatTurn). t.turn) (next_alike lib other r s alike look)) ∙ next.1))
ends_one lib other limit taken taken' r s finish.Limit finish.Limit alike look fresh fresh' is is' = refl

-- No run continues where another has ended.
step_counts : (turn : Turn) (told : StepRecord) → turn ≡ Stepped told → turn_step_count turn ≡ 1
step_counts turn told is = ap turn_step_count is

locates_counts : (turn : Turn) → TurnExecutesAbsa turn → turn_step_count turn ≡ 1
locates_counts (Stepped e) h = refl
locates_counts (Linked note) h = absurd h
locates_counts (Console text) h = absurd h
locates_counts (Ended e) h = absurd h
locates_counts Full h = absurd h
locates_counts NoMemory h = absurd h

like_end : (e : End) (turn flat : Turn) → Ended e ≡ flat → IsEvent turn → IsLikeFlat turn flat → ⊥
like_end e turn flat is event (inl h) = subst IsEvent (h ∙ sym is) event
like_end e turn flat is event (inr h) = subst TurnExecutesAbsa (sym is) h.1

like_step : (told : StepRecord) (turn flat : Turn) → flat ≡ Stepped told → IsLikeFlat turn flat → turn_step_count turn ≡ 1
like_step told turn flat is (inl h) = step_counts turn told (h ∙ is)
like_step told turn flat is (inr h) = locates_counts turn h.0

not_on :
    (lib other : Library) (limit taken left : ℕ) (r s mid : Booted) (how : Finish) (turn : Turn)
    → AreAlike lib other → Look r s → IsFresh lib r → IsFresh other s → IsTurn other s turn mid → IsEvent turn
    → taken + (turn_step_count turn + left) ≤ limit → Ends how lib limit taken r → ⊥
not_on lib other limit taken left r s mid (finish.Over e) turn alike look fresh fresh' on event few is =
    let like = like_flat other s turn mid fresh' on (event_has turn event) in
    like_end e turn (flat_turn other (flat_run_of s)).turn
    (end_told lib r e is.0 fresh is.1 ∙ ap (λ (t : FlatTurn). t.turn) (next_alike lib other r s alike look)) event like
not_on lib other limit taken left r s mid finish.Limit turn alike look fresh fresh' on event few is =
    let like = like_flat other s turn mid fresh' on (event_has turn event) in
    let next = next_is lib (flat_run_of r) is.1 in
    let one : turn_step_count turn ≡ 1 =
    like_step next.0 turn (flat_turn other (flat_run_of s)).turn
    (sym (ap (λ (t : FlatTurn). t.turn) (next_alike lib other r s alike look)) ∙ next.1) like in
    omega (arith, one, few, is.0)

-- A turn from a state with the same flat state as one from which a plain turn is made is that plain turn, and both
-- leave states with the same flat state.
record IsNext (lib other : Library) (turn turn' : Turn) (mid mid' : Booted) : Type 0 where
  pub turn_is : turn ≡ turn'
  pub plain : IsPlainTurn turn'
  pub look : Look mid mid'
  pub fresh : IsFresh lib mid
  pub fresh' : IsFresh other mid'

next_one :
    (lib other : Library) (r s mid mid' : Booted) (turn turn' : Turn)
    → AreAlike lib other → Look r s → IsFresh lib r → IsFresh other s → IsTurn lib r turn mid
    → IsTurn other s turn' mid'
    → IsPlainTurn turn → HasMemory turn' → IsNext lib other turn turn' mid mid'
next_one lib other r s mid mid' turn turn' alike look fresh fresh' is is' plain has =
    let on = goes lib r turn mid fresh is plain in
    let next = next_alike lib other r s alike look in
    let like = like_flat other s turn' mid' fresh' is' has in
    let plain' = plain_like turn turn' (flat_turn other (flat_run_of s)).turn
    (on.flat.turn_is ∙ ap (λ (t : FlatTurn). t.turn) next) plain like in
    let on' = goes other s turn' mid' fresh' is' plain' in
    record {
      turn_is = on.flat.turn_is ∙ ap (λ (t : FlatTurn). t.turn) next ∙ sym on'.flat.turn_is;
      plain = plain';
      look = on.flat.after_is ∙ ap (λ (t : FlatTurn). t.after) next ∙ sym on'.flat.after_is;
      fresh = on.fresh;
      fresh' = on'.fresh;
    }

-- `same` goes on where `turns` end: it makes one more turn at least, from a state with the same flat state.
pub record GoesOn (lib other : Library) (turns same : List Turn) (last : Booted) : Type 0 where
  pub next : Turn
  pub more : List Turn
  pub is : same ≡ turns ++ (next ∷ more)
  pub before : Booted
  pub after : Booted
  pub made : IsTurn other before next after
  pub event : IsEvent next
  pub look : Look last before
  pub fresh : IsFresh lib last
  pub fresh' : IsFresh other before

-- Both lists end here.
pub record AreSame (lib other : Library) (turns same : List Turn) (last last' : Booted) : Type 0 where
  pub turns_are : turns ≡ same
  pub look : Look last last'
  pub fresh : IsFresh lib last
  pub fresh' : IsFresh other last'

-- The lists are the same, or one goes on where the other ends.
abbrev pub Meet : Library → Library → List Turn → List Turn → Booted → Booted → Type 0
Meet lib other turns same last last' =
    AreSame lib other turns same last last' ⊎ GoesOn lib other turns same last ⊎ GoesOn other lib same turns last'

meet_on :
    (lib other : Library) (turn turn' : Turn) (turns same : List Turn) (last last' : Booted)
    → turn ≡ turn' → Meet lib other turns same last last' → Meet lib other (turn ∷ turns) (turn' ∷ same) last last'
meet_on lib other turn turn' turns same last last' one (inl are) = inl (record {
  turns_are = λ i. one i ∷ are.turns_are i;
  look = are.look;
  fresh = are.fresh;
  fresh' = are.fresh';
})
meet_on lib other turn turn' turns same last last' one (inr (inl on)) = inr (inl (record {
  next = on.next;
  more = on.more;
  is = λ i. sym one i ∷ on.is i;
  before = on.before;
  after = on.after;
  made = on.made;
  event = on.event;
  look = on.look;
  fresh = on.fresh;
  fresh' = on.fresh';
}))
meet_on lib other turn turn' turns same last last' one (inr (inr on)) = inr (inr (record {
  next = on.next;
  more = on.more;
  is = λ i. one i ∷ on.is i;
  before = on.before;
  after = on.after;
  made = on.made;
  event = on.event;
  look = on.look;
  fresh = on.fresh;
  fresh' = on.fresh';
}))

-- Plain turns, and any turns of steps and services.
pub turns_meet :
    (lib other : Library) (r s last last' : Booted) (turns same : List Turn)
    → AreAlike lib other → Look r s → IsFresh lib r → IsFresh other s
    → AreTurns lib r turns last → AreTurns other s same last'
    → Each IsEvent turns → Each IsEvent same → Each IsPlainTurn turns → Meet lib other turns same last last'
unfolding AreTurns
turns_meet lib other r s last last' [] [] alike look fresh fresh' are are' events events' plain = inl (record {
  turns_are = refl;
  look = ap (λ (b : Booted). flat_run_of b) are ∙ look ∙ sym (ap (λ (b : Booted). flat_run_of b) are');
  fresh = subst (IsFresh lib) (sym are) fresh;
  fresh' = subst (IsFresh other) (sym are') fresh';
})
turns_meet lib other r s last last' [] (turn ∷ more) alike look fresh fresh' are are' events events' plain =
    inr (inl (record {
      next = turn;
      more = more;
      is = refl;
      before = s;
      after = are'.0;
      made = are'.1;
      event = events'.0;
      look = ap (λ (b : Booted). flat_run_of b) are ∙ look;
      fresh = subst (IsFresh lib) (sym are) fresh;
      fresh' = fresh';
    }))
turns_meet lib other r s last last' (turn ∷ more) [] alike look fresh fresh' are are' events events' plain =
    inr (inr (record {
      next = turn;
      more = more;
      is = refl;
      before = r;
      after = are.0;
      made = are.1;
      event = events.0;
      look = ap (λ (b : Booted). flat_run_of b) are' ∙ sym look;
      fresh = subst (IsFresh other) (sym are') fresh';
      fresh' = fresh;
    }))
turns_meet lib other r s last last' (turn ∷ more) (turn' ∷ more') alike look fresh fresh' are are' events events' plain
    =
    let next = next_one lib other r s are.0 are'.0 turn turn' alike look fresh fresh' are.1 are'.1 plain.0
    (event_has turn' events'.0) in
    meet_on lib other turn turn' more more' last last' next.turn_is
    (turns_meet lib other are.0 are'.0 last last' more more' alike next.look next.fresh
    next.fresh' are.2 are'.2 events.1 events'.1 plain.1)

-- ---- no turn follows where a run has finished

steps_both : (turns more : List Turn) → turns_step_count (turns ++ more) ≡ turns_step_count turns + turns_step_count more
unfolding turns_step_count
steps_both [] more = omega arith
steps_both (turn ∷ turns) more = omega (arith, steps_both turns more)

steps_on :
    (turns same more : List Turn) (next : Turn) → same ≡ turns ++ (next ∷ more)
    → turns_step_count same ≡ turns_step_count turns + (turn_step_count next + turns_step_count more)
unfolding turns_step_count
steps_on turns same more next is = ap turns_step_count is ∙ steps_both turns (next ∷ more)

pub ends_there :
    (lib other : Library) (limit : ℕ) (turns same : List Turn) (last : Booted) (how : Finish)
    → AreAlike lib other → GoesOn lib other turns same last → turns_step_count same ≤ limit → Finishes how lib limit turns last
    → ⊥
ends_there lib other limit turns same last how alike on few finishes =
    not_on lib other limit (turns_step_count turns)
    (turns_step_count on.more) last on.before on.after how on.next alike on.look on.fresh on.fresh' on.made on.event
    (subst (λ n. n ≤ limit) (steps_on turns same on.more on.next on.is) few)
    (finished how lib limit turns last finishes)

-- Turns that are the same, and a finish of each.
pub finish_one :
    (lib other : Library) (limit : ℕ) (turns same : List Turn) (last last' : Booted) (how end : Finish)
    → AreAlike lib other → AreSame lib other turns same last last' → Finishes how lib limit turns last
    → Finishes end other limit same last' → how ≡ end
finish_one lib other limit turns same last last' how end alike are is is' =
    ends_one lib other limit (turns_step_count turns) (turns_step_count same) last last' how end alike are.look are.fresh are.fresh'
    (finished how lib limit turns last is) (finished end other limit same last' is')

-- ---- the same turns, where there are as many

pub turns_one :
    (lib other : Library) (r s last last' : Booted) (turns same : List Turn)
    → AreAlike lib other → Look r s → IsFresh lib r → IsFresh other s → AreTurns lib r turns last
    → AreTurns other s same last'
    → Each IsPlainTurn turns → Each HasMemory same → length turns ≡ length same → turns ≡ same
unfolding AreTurns
turns_one lib other r s last last' [] [] alike look fresh fresh' are are' plain has count = refl
turns_one lib other r s last last' [] (turn' ∷ more') alike look fresh fresh' are are' plain has count =
    absurd (omega (arith, count))
turns_one lib other r s last last' (turn ∷ more) [] alike look fresh fresh' are are' plain has count =
    absurd (omega (arith, count))
turns_one lib other r s last last' (turn ∷ more) (turn' ∷ more') alike look fresh fresh' are are' plain has count =
    let next = next_one lib other r s are.0 are'.0 turn turn' alike look fresh fresh' are.1 are'.1 plain.0 has.0 in
    let one = next.turn_is in
    let rest = turns_one lib other are.0 are'.0 last last' more more' alike next.look next.fresh
    next.fresh' are.2 are'.2 plain.1 has.1 (omega (arith, count)) in
    λ i. one i ∷ rest i
