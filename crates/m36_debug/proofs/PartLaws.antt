-- Laws of parts of a session: two that follow one another are one.
use Rattle.std.proofs.Common.{◌≡◌, ℕ, List, [], ◌∷◌, ◌++◌, refl, sym, ap, subst, ◌∙◌}
use Rattle.std.proofs.lemmas.List.{append-nil, append_assoc}
use Rattle.m36_outside.specs.declared.sink.Put.TheVariants.{Done, Failed}
use Rattle.m36_debug.specs.Putting.{Pending, PutsPieces}
use Rattle.m36_debug.specs.Parts.{SessionPart, FailedPart}
use Rattle.m36_debug.specs.Session.{MachineRelations, SessionPoint, EventKind, SessionEvent, MayHappen, state_after, event_lines, Follow, texts_of, lines_in, line_in}
use Rattle.m36_debug.proofs.PutLaws.{puts_nothing, puts_on, puts_more}

-- ---- events

pub follow_on :
    {M : Type 0} (o : MachineRelations M) (s : SessionPoint) (m : M) (events others : List (SessionEvent M)) (s1 : SessionPoint) (m1 : M) (s2 : SessionPoint) (m2 : M)
    → Follow o s m events s1 m1 → Follow o s1 m1 others s2 m2 → Follow o s m (events ++ others) s2 m2
unfolding Follow
follow_on o s m [] others s1 m1 s2 m2 one two =
    subst (λ (u : SessionPoint). Follow o u m others s2 m2) one.0 (subst (λ n. Follow o s1 n others s2 m2) one.1 two)
follow_on o s m (e ∷ events) others s1 m1 s2 m2 one two =
    (one.0, follow_on o (state_after (o.regs e.after) s e.happened) e.after events others s1 m1 s2 m2 one.1 two)

pub said_on :
    {M : Type 0} (o : MachineRelations M) (s : SessionPoint) (m : M) (events others : List (SessionEvent M)) (s1 : SessionPoint) (m1 : M)
    → Follow o s m events s1 m1 → texts_of o s (events ++ others) ≡ texts_of o s events ++ texts_of o s1 others
unfolding Follow texts_of
said_on o s m [] others s1 m1 one = ap (λ (u : SessionPoint). texts_of o u others) (sym one.0)
said_on o s m (e ∷ events) others s1 m1 one =
    ap (λ t. event_lines (o.regs e.after) (o.content e.after) s e.happened ++ t) (said_on o (state_after (o.regs e.after) s e.happened) e.after events others s1 m1 one.1)
    ∙ sym (append_assoc (event_lines (o.regs e.after) (o.content e.after) s e.happened) (texts_of o (state_after (o.regs e.after) s e.happened) events) (texts_of o s1 others))

pub in_on : {M : Type 0} (events others : List (SessionEvent M)) → lines_in (events ++ others) ≡ lines_in events ++ lines_in others
unfolding lines_in
in_on [] others = refl
in_on (e ∷ events) others =
    ap (λ t. line_in e.happened ++ t) (in_on events others) ∙ sym (append_assoc (line_in e.happened) (lines_in events) (lines_in others))

-- ---- parts

pub part_none : {M : Type 0} (o : MachineRelations M) (s : SessionPoint) (m : M) (now : Pending) → SessionPart o s m [] s m Done now now
unfolding Follow texts_of lines_in
part_none o s m now = record { events = []; follow = (refl, refl); took = refl; wrote = puts_nothing now }

pub part_on :
    {M : Type 0} (o : MachineRelations M) (s : SessionPoint) (m : M) (lines others : List (List ℕ)) (s1 : SessionPoint) (m1 : M) (s2 : SessionPoint) (m2 : M) (old now new : Pending)
    → SessionPart o s m lines s1 m1 Done old now → SessionPart o s1 m1 others s2 m2 Done now new
    → SessionPart o s m (lines ++ others) s2 m2 Done old new
part_on o s m lines others s1 m1 s2 m2 old now new one two = record {
  events = one.events ++ two.events;
  follow = follow_on o s m one.events two.events s1 m1 s2 m2 one.follow two.follow;
  took = in_on one.events two.events ∙ ap (λ l. l ++ lines_in two.events) one.took ∙ ap (λ l. lines ++ l) two.took;
  wrote = subst (λ l. PutsPieces Done l old new) (sym (said_on o s m one.events two.events s1 m1 one.follow)) (puts_on old now new (texts_of o s one.events) (texts_of o s1 two.events) one.wrote two.wrote);
}

pub part_cut :
    {M : Type 0} (o : MachineRelations M) (s : SessionPoint) (m : M) (lines others : List (List ℕ)) (s1 : SessionPoint) (m1 m2 : M) (old now new : Pending)
    → SessionPart o s m lines s1 m1 Done old now → FailedPart o s1 m1 others m2 now new
    → FailedPart o s m (lines ++ others) m2 old new
part_cut o s m lines others s1 m1 m2 old now new one two = record {
  stands = two.stands;
  part = record {
    events = one.events ++ two.part.events;
    follow = follow_on o s m one.events two.part.events s1 m1 two.stands m2 one.follow two.part.follow;
    took = in_on one.events two.part.events ∙ ap (λ l. l ++ lines_in two.part.events) one.took ∙ ap (λ l. lines ++ l) two.part.took;
    wrote = subst (λ l. PutsPieces Failed l old new) (sym (said_on o s m one.events two.part.events s1 m1 one.follow)) (puts_more old now new (texts_of o s one.events) (texts_of o s1 two.part.events) one.wrote two.part.wrote);
  };
}

-- one event
pub event_part :
    {M : Type 0} (o : MachineRelations M) (s : SessionPoint) (m m' : M) (h : EventKind) (old new : Pending)
    → MayHappen o s.doing m h m' → PutsPieces Done (event_lines (o.regs m') (o.content m') s h) old new
    → SessionPart o s m (line_in h) (state_after (o.regs m') s h) m' Done old new
unfolding Follow texts_of lines_in
event_part o s m m' h old new may puts = record {
  events = record { happened = h; after = m' } ∷ [];
  follow = (may, (refl, refl));
  took = append-nil (line_in h);
  wrote = subst (λ l. PutsPieces Done l old new) (sym (append-nil (event_lines (o.regs m') (o.content m') s h))) puts;
}

pub event_cut :
    {M : Type 0} (o : MachineRelations M) (s : SessionPoint) (m m' : M) (h : EventKind) (old new : Pending)
    → MayHappen o s.doing m h m' → PutsPieces Failed (event_lines (o.regs m') (o.content m') s h) old new
    → FailedPart o s m (line_in h) m' old new
unfolding Follow texts_of lines_in
event_cut o s m m' h old new may puts = record {
  stands = state_after (o.regs m') s h;
  part = record {
    events = record { happened = h; after = m' } ∷ [];
    follow = (may, (refl, refl));
    took = append-nil (line_in h);
    wrote = subst (λ l. PutsPieces Failed l old new) (sym (append-nil (event_lines (o.regs m') (o.content m') s h))) puts;
  };
}
