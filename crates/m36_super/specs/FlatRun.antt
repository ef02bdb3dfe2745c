-- The flat run: steps over the flat memory, with the link and the console service, and no pages.
use Rattle.std.specs.Prelude.{ℕ, zero, suc, Bool, true, false, List, [], ◌∷◌}
use Rattle.std.specs.Prelude.{Result, Ok, Err}
use Rattle.m36_model.specs.Fields.{AtFields}
use Rattle.m36_model.specs.Results.{advanced}
use Rattle.m36_model.specs.Store.{State}
use Rattle.m36_model.specs.Step.{record_of, state_after}
use Rattle.m36_model.specs.Flat.{Flat, flat_put, flat_store}
use Rattle.m36_model.specs.declared.endings.End.TheVariants as end
use Rattle.m36_model.specs.declared.outcome.Fault.{Fault}
use Rattle.m36_link.specs.Fields.{KnownFields, SnapFields}
use Rattle.m36_link.specs.Snap.{RefusedFields, snap_of}
use Rattle.m36_link.specs.Accepted.{known_after}
use Rattle.m36_step.specs.declared.turns.Turn.{Turn}
use Rattle.m36_step.specs.declared.turns.Turn.TheVariants.{Stepped, Linked, Console, Ended}
use Rattle.m36_super.specs.Library.{Library}
use Rattle.m36_super.specs.Services.{link_changes, note_snapped, note_refused, asks_too_much}
use Rattle.m36_super.specs.Services.{console_text}
use Rattle.m36_super.specs.NextEvent.{NextEvent, Step, Link, Print, Over, loaded_after}
use Rattle.m36_super.specs.NextEvent.{next_event_after}

-- registers and flat memory; what the rings know; what the next turn is; and whether an LDBR has
-- been executed
pub record FlatRun : Type 0 where
  pub state : State Flat
  pub known : KnownFields
  pub next_event : NextEvent
  pub loaded : Bool

-- a turn, and the state of the flat run after it
pub record FlatTurn : Type 0 where
  pub turn : Turn
  pub after : FlatRun

-- a turn of the flat run that is a step
unfoldable pub flat_step_turn : FlatRun → FlatTurn
flat_step_turn r =
    let told = record_of flat_store r.state in
    record {
      turn = Stepped told;
      after =
          record r {
            state = state_after flat_store r.state;
            next_event = next_event_after r.loaded told;
            loaded = loaded_after r.loaded told;
          };
    }

-- a turn of the flat run that is the service of the link at this address, by the answer to the
-- link; if it is refused, the next turn is the end
abbrev pub flat_link_turn : Result SnapFields RefusedFields → FlatRun → AtFields → FlatTurn
flat_link_turn (Ok s) r at =
    record {
      turn = Linked (note_snapped at s);
      after =
          record r {
            state =
                record {
                  regs = r.state.regs;
                  store = flat_put r.state.store (link_changes at s);
                };
            known = known_after r.known s;
            next_event = Step;
          };
    }
flat_link_turn (Err why) r at =
    record {
      turn = Linked (note_refused at why);
      after = record r { next_event = Over (end.Link why.code) };
    }

-- a turn of the flat run that is a console service; if it is refused (true) or its text cannot be
-- read, the run ends at once
abbrev pub flat_console_turn : Bool → Result (List ℕ) Fault → FlatRun → FlatTurn
flat_console_turn true text r =
    record { turn = Ended end.Console; after = record r { next_event = Over end.Console } }
flat_console_turn false (Err f) r =
    record { turn = Ended (end.Fault f); after = record r { next_event = Over (end.Fault f) } }
flat_console_turn false (Ok text) r =
    record {
      turn = Console text;
      after =
          record r {
            state = record { regs = advanced r.state.regs; store = r.state.store };
            next_event = Step;
          };
    }

-- a turn of the flat run, by what the next turn is
abbrev pub flat_turn_by : NextEvent → Library → FlatRun → FlatTurn
flat_turn_by Step lib r = flat_step_turn r
flat_turn_by (Link at) lib r = flat_link_turn (snap_of r.known lib.catalog lib.files at) r at
flat_turn_by Print lib r =
    flat_console_turn (asks_too_much r.state.regs) (console_text r.state.regs r.state.store) r
flat_turn_by (Over e) lib r = record { turn = Ended e; after = r }

-- one turn of the flat run
unfoldable pub flat_turn : Library → FlatRun → FlatTurn
flat_turn lib r = flat_turn_by r.next_event lib r

-- the next n turns of the flat run
unfoldable pub flat_turns : Library → FlatRun → ℕ → List Turn
flat_turns lib r zero = []
flat_turns lib r (suc n) = (flat_turn lib r).turn ∷ flat_turns lib (flat_turn lib r).after n
