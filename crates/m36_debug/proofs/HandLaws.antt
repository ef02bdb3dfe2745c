-- Laws of handing over the block: after it all answers have been put.
use Rattle.std.proofs.Common.{◌≡◌, ℕ, List, [], ◌++◌, sym, subst}
use Rattle.std.proofs.lemmas.List.{append-nil}
use Rattle.m36_outside.specs.declared.sink.Put.{Put}
use Rattle.m36_outside.specs.declared.sink.Put.TheVariants.{Done, Failed}
use Rattle.m36_world.specs.Seen.{Seen}
use Rattle.m36_program.specs.Gathered.{Loses}
use Rattle.m36_debug.specs.declared.machine_relations.LineResult.{LineResult}
use Rattle.m36_debug.specs.declared.machine_relations.LineResult.TheVariants as ends
use Rattle.m36_debug.specs.Handing.{after_put, HandsOver}
use Rattle.m36_debug.specs.Parts.{SessionPart, FailedPart, LineContract}
use Rattle.m36_debug.specs.PieceContract.{PieceContract}
use Rattle.m36_debug.specs.Putting.{Pending, PutsPieces}
use Rattle.m36_debug.specs.Session.{MachineRelations, SessionPoint, standing, Waiting, Over, Starved, texts_of}
use Rattle.m36_debug.specs.SessionState.{SessionStateFields}
use Rattle.m36_debug.proofs.PutLaws.{puts_on, puts_more}

-- the answers of a part were put
part_put :
    {M : Type 0} (o : MachineRelations M) (s : SessionPoint) (m : M) (lines : List (List ℕ)) (s' : SessionPoint) (m' : M) (old mid new : Pending)
    → SessionPart o s m lines s' m' Done old mid → PutsPieces Done [] mid new → SessionPart o s m lines s' m' Done old new
part_put o s m lines s' m' old mid new part puts = record {
  events = part.events;
  follow = part.follow;
  took = part.took;
  wrote = subst (λ l. PutsPieces Done l old new) (append-nil (texts_of o s part.events)) (puts_on old mid new (texts_of o s part.events) [] part.wrote puts);
}

-- only a prefix of them was put
part_lost :
    {M : Type 0} (o : MachineRelations M) (s : SessionPoint) (m : M) (lines : List (List ℕ)) (s' : SessionPoint) (m' : M) (old mid new : Pending)
    → SessionPart o s m lines s' m' Done old mid → PutsPieces Failed [] mid new → FailedPart o s m lines m' old new
part_lost o s m lines s' m' old mid new part puts = record {
  stands = s';
  part = record {
    events = part.events;
    follow = part.follow;
    took = part.took;
    wrote = subst (λ l. PutsPieces Failed l old new) (append-nil (texts_of o s part.events)) (puts_more old mid new (texts_of o s part.events) [] part.wrote puts);
  };
}

-- after the output failed, nothing more was put
cut_stays :
    {M : Type 0} (o : MachineRelations M) (s : SessionPoint) (m : M) (lines : List (List ℕ)) (m' : M) (old mid new : Pending)
    → FailedPart o s m lines m' old mid → new.world ≡ mid.world → FailedPart o s m lines m' old new
cut_stays o s m lines m' old mid new cut same = record {
  stands = cut.stands;
  part = record {
    events = cut.part.events;
    follow = cut.part.follow;
    took = cut.part.took;
    wrote = subst (λ (w : Seen). Loses (old.block ++ texts_of o s cut.part.events) old.world w) (sym same) cut.part.wrote;
  };
}

-- an end other than that of a failed output
abbrev IsUncut : LineResult → Type 0
IsUncut ends.Line = Unit {0}
IsUncut ends.Quit = Unit {0}
IsUncut ends.Starved = Unit {0}
IsUncut ends.Cut = ⊥

-- ---- a line

end_by :
    {M : Type 0} (o : MachineRelations M) (end : LineResult) (put : Put) (s : SessionPoint) (m : M) (lines : List (List ℕ)) (sitting : SessionStateFields) (m' : M) (old mid new : Pending)
    → IsUncut end → LineContract o end s m lines sitting m' old mid → PutsPieces put [] mid new → LineContract o (after_put put end) s m lines sitting m' old new
end_by o ends.Line Done s m lines sitting m' old mid new uncut says puts = part_put o s m lines (standing sitting Waiting) m' old mid new says puts
end_by o ends.Line Failed s m lines sitting m' old mid new uncut says puts = part_lost o s m lines (standing sitting Waiting) m' old mid new says puts
end_by o ends.Quit Done s m lines sitting m' old mid new uncut says puts = part_put o s m lines (standing sitting Over) m' old mid new says puts
end_by o ends.Quit Failed s m lines sitting m' old mid new uncut says puts = part_lost o s m lines (standing sitting Over) m' old mid new says puts
end_by o ends.Starved Done s m lines sitting m' old mid new uncut says puts = part_put o s m lines (standing sitting Starved) m' old mid new says puts
end_by o ends.Starved Failed s m lines sitting m' old mid new uncut says puts = part_lost o s m lines (standing sitting Starved) m' old mid new says puts
end_by o ends.Cut put s m lines sitting m' old mid new uncut says puts = absurd uncut

pub end_handed :
    {M : Type 0} (o : MachineRelations M) (end result : LineResult) (s : SessionPoint) (m : M) (lines : List (List ℕ)) (sitting : SessionStateFields) (m' : M) (old mid new : Pending)
    → LineContract o end s m lines sitting m' old mid → HandsOver end result mid new → LineContract o result s m lines sitting m' old new
end_handed o ends.Line result s m lines sitting m' old mid new says hands =
    subst (λ (e : LineResult). LineContract o e s m lines sitting m' old new) (sym hands.result_is) (end_by o ends.Line hands.put s m lines sitting m' old mid new tt says hands.puts)
end_handed o ends.Quit result s m lines sitting m' old mid new says hands =
    subst (λ (e : LineResult). LineContract o e s m lines sitting m' old new) (sym hands.result_is) (end_by o ends.Quit hands.put s m lines sitting m' old mid new tt says hands.puts)
end_handed o ends.Starved result s m lines sitting m' old mid new says hands =
    subst (λ (e : LineResult). LineContract o e s m lines sitting m' old new) (sym hands.result_is) (end_by o ends.Starved hands.put s m lines sitting m' old mid new tt says hands.puts)
end_handed o ends.Cut result s m lines sitting m' old mid new says hands =
    subst (λ (e : LineResult). LineContract o e s m lines sitting m' old new) (sym hands.result_is) (cut_stays o s m lines m' old mid new says hands.same)

-- ---- a piece

piece_by :
    {M : Type 0} (o : MachineRelations M) (end : LineResult) (put : Put) (s : SessionPoint) (m : M) (text kept : List ℕ) (sitting : SessionStateFields) (m' : M) (old mid new : Pending)
    → IsUncut end → PieceContract o end s m text kept sitting m' old mid → PutsPieces put [] mid new → PieceContract o (after_put put end) s m text kept sitting m' old new
piece_by o ends.Line Done s m text kept sitting m' old mid new uncut says puts =
    record { lines = says.lines; is = says.is; unbroken = says.unbroken; part = part_put o s m says.lines (standing sitting Waiting) m' old mid new says.part puts }
piece_by o ends.Line Failed s m text kept sitting m' old mid new uncut says puts =
    record { lines = says.lines; rest = kept; is = says.is; part = part_lost o s m says.lines (standing sitting Waiting) m' old mid new says.part puts }
piece_by o ends.Quit Done s m text kept sitting m' old mid new uncut says puts =
    record { lines = says.lines; rest = says.rest; is = says.is; part = part_put o s m says.lines (standing sitting Over) m' old mid new says.part puts }
piece_by o ends.Quit Failed s m text kept sitting m' old mid new uncut says puts =
    record { lines = says.lines; rest = says.rest; is = says.is; part = part_lost o s m says.lines (standing sitting Over) m' old mid new says.part puts }
piece_by o ends.Starved Done s m text kept sitting m' old mid new uncut says puts =
    record { lines = says.lines; rest = says.rest; is = says.is; stands = says.stands; part = part_put o s m says.lines says.stands m' old mid new says.part puts }
piece_by o ends.Starved Failed s m text kept sitting m' old mid new uncut says puts =
    record { lines = says.lines; rest = says.rest; is = says.is; part = part_lost o s m says.lines says.stands m' old mid new says.part puts }
piece_by o ends.Cut put s m text kept sitting m' old mid new uncut says puts = absurd uncut

pub piece_handed :
    {M : Type 0} (o : MachineRelations M) (end result : LineResult) (s : SessionPoint) (m : M) (text kept : List ℕ) (sitting : SessionStateFields) (m' : M) (old mid new : Pending)
    → PieceContract o end s m text kept sitting m' old mid → HandsOver end result mid new → PieceContract o result s m text kept sitting m' old new
piece_handed o ends.Line result s m text kept sitting m' old mid new says hands =
    subst (λ (e : LineResult). PieceContract o e s m text kept sitting m' old new) (sym hands.result_is) (piece_by o ends.Line hands.put s m text kept sitting m' old mid new tt says hands.puts)
piece_handed o ends.Quit result s m text kept sitting m' old mid new says hands =
    subst (λ (e : LineResult). PieceContract o e s m text kept sitting m' old new) (sym hands.result_is) (piece_by o ends.Quit hands.put s m text kept sitting m' old mid new tt says hands.puts)
piece_handed o ends.Starved result s m text kept sitting m' old mid new says hands =
    subst (λ (e : LineResult). PieceContract o e s m text kept sitting m' old new) (sym hands.result_is) (piece_by o ends.Starved hands.put s m text kept sitting m' old mid new tt says hands.puts)
piece_handed o ends.Cut result s m text kept sitting m' old mid new says hands =
    subst (λ (e : LineResult). PieceContract o e s m text kept sitting m' old new) (sym hands.result_is)
    (record { lines = says.lines; rest = says.rest; is = says.is; part = cut_stays o s m says.lines m' old mid new says.part hands.same })

pub ruleset handing = (end_handed, piece_handed)
