-- Pieces that are gathered in a block before they are put.
use Rattle.std.proofs.Common.{◌≡◌, ℕ, List, [], ◌∷◌, ◌++◌, refl, sym, ap, subst, ◌∙◌}
use Rattle.std.proofs.lemmas.List.{append-nil, append_assoc}
use Rattle.m36_world.specs.declared.event.Event.TheVariants.{Output}
use Rattle.m36_world.specs.Seen.{Seen}
use Rattle.m36_world.specs.Happened.{IsOutput, IsOutputFailed}
use Rattle.m36_world.specs.Follow.{Follow, outputs}
use Rattle.m36_program.specs.Gathered.{Gathers, Loses}
use Rattle.m36_world.proofs.Following.{follow_on, follow_none, follow_one}

pub outputs_both : (first more : List (List ℕ)) → outputs (first ++ more) ≡ outputs first ++ outputs more
outputs_both [] more = refl
outputs_both (piece ∷ first) more = ap (λ events. Output piece ∷ events) (outputs_both first more)

-- some pieces, and then others
pub follow_pieces :
    (first more : List (List ℕ)) (old between new : Seen)
    → Follow (outputs first) old between → Follow (outputs more) between new → Follow (outputs (first ++ more)) old new
follow_pieces first more old between new one two =
    subst (λ events. Follow events old new) (sym (outputs_both first more))
    (follow_on (outputs first) (outputs more) old between new one two)

-- ---- pieces are added

pub gathers_none : (block : List (List ℕ)) (seen : Seen) → Gathers block block [] seen seen
gathers_none block seen = record { handed = []; is = append-nil block; follow = follow_none seen }

-- there was room
pub gathers_here : (old new more : List (List ℕ)) (seen : Seen) → new ≡ old ++ more → Gathers old new more seen seen
gathers_here old new more seen is = record { handed = []; is = sym is; follow = follow_none seen }

-- the pieces of the block were put, and then others added to it
pub gathers_after :
    (old now new more : List (List ℕ)) (before between after : Seen)
    → Follow (outputs old) before between → now ≡ [] → Gathers now new more between after
    → Gathers old new more before after
gathers_after old now new more before between after put none next = record {
  handed = old ++ next.handed;
  is = ap (λ l. old ++ l) (sym (ap (λ l. l ++ more) none) ∙ next.is) ∙ sym (append_assoc old next.handed new);
  follow = follow_pieces old next.handed before between after put next.follow;
}

pub loses_after :
    (old now more : List (List ℕ)) (before between after : Seen)
    → Follow (outputs old) before between → now ≡ [] → Loses (now ++ more) between after
    → Loses (old ++ more) before after
loses_after old now more before between after put none next = record {
  handed = old ++ next.handed;
  failed = next.failed;
  left = next.left;
  is = ap (λ l. old ++ l) (sym (ap (λ l. l ++ more) none) ∙ next.is)
      ∙ sym (append_assoc old (next.handed ++ next.failed) next.left)
      ∙ ap (λ l. l ++ next.left) (sym (append_assoc old next.handed next.failed));
  between = next.between;
  follow = follow_pieces old next.handed before between next.between put next.follow;
  fails = next.fails;
}

-- the pieces of the block could not be put
pub loses_here :
    (old more : List (List ℕ)) (before after : Seen) → IsOutputFailed old before after
    → Loses (old ++ more) before after
loses_here old more before after fails = record {
  handed = [];
  failed = old;
  left = more;
  is = refl;
  between = before;
  follow = follow_none before;
  fails = fails;
}

-- a piece was put that is too long for a block
pub gathers_put :
    (old new : List (List ℕ)) (piece : List ℕ) (before after : Seen)
    → old ≡ [] → new ≡ old → IsOutput piece before after → Gathers old new (piece ∷ []) before after
gathers_put old new piece before after none same did = record {
  handed = piece ∷ [];
  is = ap (λ l. l ++ piece ∷ []) none ∙ ap (λ l. piece ∷ l) (sym (same ∙ none));
  follow = follow_one (Output piece) before after did;
}

pub loses_put :
    (old : List (List ℕ)) (piece : List ℕ) (before after : Seen)
    → old ≡ [] → IsOutputFailed (piece ∷ []) before after → Loses (old ++ piece ∷ []) before after
loses_put old piece before after none fails =
    subst (λ l. Loses (l ++ piece ∷ []) before after) (sym none) (record {
      handed = [];
      failed = piece ∷ [];
      left = [];
      is = refl;
      between = before;
      follow = follow_none before;
      fails = fails;
    })

-- what a function that adds pieces to a block takes by `using`
pub ruleset gathering = (gathers_here, gathers_after, loses_after, loses_here, gathers_put, loses_put)

-- ---- pieces are added, and the block is put

pub puts_finished :
    (old mid more : List (List ℕ)) (before between after : Seen)
    → Gathers old mid more before between → Follow (outputs mid) between after
    → Follow (outputs (old ++ more)) before after
puts_finished old mid more before between after added put =
    subst (λ l. Follow (outputs l) before after) (sym added.is)
    (follow_pieces added.handed mid before between after added.follow put)

pub puts_lost :
    (old mid more : List (List ℕ)) (before between after : Seen)
    → Gathers old mid more before between → IsOutputFailed mid between after → Loses (old ++ more) before after
puts_lost old mid more before between after added fails = record {
  handed = added.handed;
  failed = mid;
  left = [];
  is = added.is ∙ sym (append-nil (added.handed ++ mid));
  between = between;
  follow = added.follow;
  fails = fails;
}

pub ruleset finishing = (puts_finished, puts_lost)
