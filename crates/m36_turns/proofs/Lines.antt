-- Lemmas on the texts of lines.
use Rattle.std.proofs.Common.{◌≡◌, ℕ, List, [], ◌∷◌, ◌++◌, append_assoc, ap, ◌∙◌}
use Rattle.std.specs.Prelude.{codes}
use Rattle.std.specs.List.{join_with_byte, flat_map}
use Rattle.m36_turns.specs.TurnLines.{console_character}

-- the fields of a link line, put one after another
pub linked_in_turn :
    (ring place name answer : List ℕ)
    → ((((((codes "link " ++ ring) ++ (32 ∷ [])) ++ place) ++ (32 ∷ [])) ++ name) ++ (32 ∷ [])) ++ answer
    ≡ join_with_byte 32 (codes "link" ∷ ring ∷ place ∷ name ∷ answer ∷ [])
linked_in_turn ring place name answer = simp append_assoc

-- the fields of an end line
pub ended_in_turn :
    (service code count : List ℕ)
    → (((codes "end " ++ service) ++ code) ++ (32 ∷ [])) ++ count ≡ join_with_byte 32 (codes "end" ∷ (service ++ code) ∷ count ∷ [])
ended_in_turn service code count = simp append_assoc

-- an appended character completes the line as before
pub put_on :
    (line next all : List ℕ) (c : ℕ) (rest : List ℕ)
    → next ≡ line ++ console_character c → line ++ flat_map console_character (c ∷ rest) ≡ all
    → next ++ flat_map console_character rest ≡ all
put_on line next all c rest put so_far =
    ap (λ (t : List ℕ). t ++ flat_map console_character rest) put
    ∙ append_assoc line (console_character c) (flat_map console_character rest)
    ∙ so_far
