-- How the code's view of a point of a chain maps to that of the definitions.
use Rattle.std.specs.Prelude.{ℕ, ◌≡◌, ◌+◌, ◌%◌, ◌<◌, ◌^◌, IfSome, List, [], ◌∷◌, ◌++◌, Option}
use Rattle.std.specs.Prelude.{Result, Ok, Err}
use Rattle.m36_desc.specs.Fields.{SdwFields}
use Rattle.m36_model.specs.Registers.{RegsFields}
use Rattle.m36_model.specs.Act.{Indirect, Odd, done}
use Rattle.m36_model.specs.Store.{ServeResult, ProgramResult, serve, run}
use Rattle.m36_model.specs.Core.{core_store}
use Rattle.m36_model.specs.Modification.{Point, Move, Ends, Fails, Reads, Counts, at_point}
use Rattle.m36_model.specs.Chain.{ChainEnd, Formation, IndirectKind, Plain, Its, Itp}
use Rattle.m36_model.specs.Chain.{indirect_request, chain_by}
use Rattle.m36_model.specs.declared.effects.Formed.{Formed}
use Rattle.m36_model.specs.declared.outcome.Fault.{Fault}
use Rattle.m36_model.specs.declared.outcome.Halt.{Halt}
use Rattle.m36_model.specs.declared.outcome.Halt.TheVariants as halt
use Rattle.m36_model.specs.declared.place.Reference.{Reference}
use Rattle.m36_model.specs.declared.place.Kind.TheVariants as reference
use Rattle.m36_walk.specs.Memory.{Memory}
use Rattle.m36_walk.specs.Served.{midstep_with, sdw_in, answer_of_words}
use Rattle.m36_ea.specs.Formed.{formation_end}
use Rattle.m36_ea.specs.declared.modification.Action.{Action}
use Rattle.m36_ea.specs.declared.modification.Action.TheVariants as action
use Rattle.m36_ea.specs.declared.indirect.Format.{Format}
use Rattle.m36_ea.specs.declared.indirect.Format.TheVariants as format

-- what a tag does, in the terms of the definitions
abbrev pub move_of_action : Action → Move
move_of_action (action.Ends last) = Ends last
move_of_action (action.Fails h) = Fails h
move_of_action (action.Reads word held) = Reads word held
move_of_action action.Counts = Counts

-- word numbers and held registers have 18 bits
abbrev pub IsInRange : Action → Type 0
IsInRange (action.Ends last) = Unit {0}
IsInRange (action.Fails h) = Unit {0}
IsInRange (action.Reads word held) = (word < 2 ^ 18) × IfSome held (λ h. h < 2 ^ 18)
IsInRange action.Counts = Unit {0}

-- the format of an indirect word, in the terms of the definitions
abbrev pub found_of_format : Format → IndirectKind
found_of_format format.Plain = Plain
found_of_format format.Its = Its
found_of_format format.Itp = Itp

-- The even word of a pair has an even word number, so the odd word follows it in the segment.
abbrev pub FollowsEven : ℕ → Format → Type 0
FollowsEven word format.Plain = Unit {0}
FollowsEven word format.Its = word % 2 ≡ 0
FollowsEven word format.Itp = word % 2 ≡ 0

-- a completed reference to an indirect word, or to a pair
abbrev pub indirect_reference : Point → ℕ → ℕ → Reference
indirect_reference p word count =
    record { kind = reference.Indirect; at = at_point p word; count = count }

-- The answer to a reference to one word. If it succeeds, it returns the word and completes the
-- reference; if it is refused, it completes nothing. The step has claimed no write.
abbrev pub word_answer :
    SdwFields → List ℕ → List Reference → List Reference → Result ℕ Fault → ServeResult (List ℕ)
word_answer d core answered refused (Ok w) =
    record { reply = Ok (answer_of_words d [] (w ∷ [])); mid = midstep_with core [] answered }
word_answer d core answered refused (Err f) =
    record { reply = Err f; mid = midstep_with core [] refused }

-- The result is the word of a point at a word number, whatever was referenced before it.
abbrev pub ServesIndirect : RegsFields → Point → ℕ → Memory → List ℕ → Result ℕ Fault → Type 0
ServesIndirect g p word m core' result =
    (refs : List Reference)
    → serve core_store g (midstep_with m.core [] refs) (indirect_request Indirect p word)
    ≡ word_answer (sdw_in m p.seg) core' (refs ++ indirect_reference p word 1 ∷ []) refs result

-- The result is the odd word of a pair whose even word was referenced before it.
abbrev pub ServesOdd :
    RegsFields → Point → ℕ → Memory → List Reference → List ℕ → List Reference → Result ℕ Fault
    → Type 0
ServesOdd g p word m refs core' refs' result =
    serve core_store g (midstep_with m.core [] (refs ++ indirect_reference p word 1 ∷ []))
    (indirect_request Odd p (word + 1))
    ≡ word_answer (sdw_in m p.seg) core' refs' refs' result

-- the chain after an indirect word: it continues at the next point, or ends with the fault
abbrev pub continue_with : (Point → Formation) → Result Point Fault → Formation
continue_with next (Ok p) = next p
continue_with next (Err f) = done (Err (halt.Fault f))

-- A chain that reads its indirect word here continues with this result, whatever comes next.
abbrev pub Follows :
    RegsFields → Point → ℕ → Option ℕ → List ℕ → List Reference → List ℕ → List Reference
    → Result Point Fault → Type 0
Follows g p word held core refs core' refs' result =
    (next : Point → Formation)
    → run core_store g (chain_by next g p (Reads word held)) (midstep_with core [] refs)
    ≡ run core_store g (continue_with next result) (midstep_with core' [] refs')

-- the end of a chain that reads a tally word
abbrev pub counted_end :
    List ℕ → List Reference → Result Formed Fault → ProgramResult (Result ChainEnd Halt) (List ℕ)
counted_end core refs (Ok f) = formation_end core refs (Ok f)
counted_end core refs (Err f) = formation_end core refs (Err (halt.Fault f))

-- A chain that reads its tally word here ends with this result.
abbrev pub CountsTally :
    RegsFields → Point → List ℕ → List Reference → List ℕ → List Reference → Result Formed Fault
    → Type 0
CountsTally g p core refs core' refs' result =
    (next : Point → Formation)
    → run core_store g (chain_by next g p Counts) (midstep_with core [] refs)
    ≡ counted_end core' refs' result
