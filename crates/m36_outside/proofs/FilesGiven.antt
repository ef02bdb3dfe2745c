-- Laws of what a file gave: pieces given one after another, and logs that are appended to other logs.
use Rattle.std.proofs.Common.{◌≡◌, ℕ, ◌<◌, List, [], ◌∷◌, ◌++◌, length, refl, sym, ap, subst, ◌∙◌}
use Rattle.std.proofs.lemmas.List.{append-nil, append_assoc}
use Rattle.std.specs.declared.io.ErrorKind.{ErrorKind}
use Rattle.std.specs.declared.io.ErrorKind.TheVariants.{NotFound}
use Rattle.m36_outside.specs.Chunk.{AddResult, ChunkGives, GivesPiece}
use Rattle.m36_outside.specs.Given.{Gives, GivesAll, GivesTooMuch, GivesSome, ReadGives}
use Rattle.m36_outside.specs.ReadAnswer.{file_limit, IsWithinLimit}
use Rattle.m36_outside.specs.System.{open_refusal_of}
use Rattle.m36_outside.specs.declared.folder.ReadAnswer.{ReadAnswer}
use Rattle.m36_outside.specs.declared.folder.ReadAnswer.TheVariants.{Read, Absent, TooLarge, Failed, NoMemory}
use Rattle.m36_outside.specs.declared.reading.Chunk.{Chunk}
use Rattle.m36_outside.specs.declared.reading.Chunk.TheVariants as chunk
use Rattle.m36_outside.proofs.Takes.{joined_more}

-- nothing was given yet
pub gives_none : (now : List (List ℕ)) → Gives now now []
gives_none now = record { pieces = []; come = refl; gave = sym (append-nil now) }

-- one more piece
pub gives_more :
    (start now next : List (List ℕ)) (before after : List ℕ)
    → Gives start now before → GivesPiece now next before after → Gives start next after
gives_more start now next before after first more = record {
  pieces = first.pieces ++ more.got ∷ [];
  come = joined_more first.pieces more.got ∙ ap (λ l. l ++ more.got) first.come ∙ sym more.added;
  gave = more.gave ∙ ap (λ l. l ++ more.got ∷ []) first.gave ∙ append_assoc start first.pieces (more.got ∷ []);
}

-- the end
pub gives_all :
    (start now next : List (List ℕ)) (before after : List ℕ)
    → Gives start now before → next ≡ now ++ [] ∷ [] → after ≡ before → GivesAll start next after
gives_all start now next before after first end same = record {
  pieces = first.pieces;
  come = first.come ∙ sym same;
  gave = end ∙ ap (λ l. l ++ [] ∷ []) first.gave;
}

-- one more piece, and it is too much
pub gives_too_much :
    (start now next : List (List ℕ)) (before after : List ℕ)
    → Gives start now before → GivesPiece now next before after → file_limit < length after
    → GivesTooMuch start next
gives_too_much start now next before after first more many =
    let all = gives_more start now next before after first more in record {
      pieces = all.pieces;
      more = subst (λ l. file_limit < length l) (sym all.come) many;
      gave = all.gave;
    }

-- no piece more, or some that were not added
pub gives_some :
    (start now next : List (List ℕ)) (before : List ℕ)
    → Gives start now before → next ≡ now → GivesSome start next
gives_some start now next before first same = record { pieces = first.pieces; gave = same ∙ first.gave }

pub gives_some_more :
    (start now next : List (List ℕ)) (before : List ℕ)
    → Gives start now before → GivesSome now next → GivesSome start next
gives_some_more start now next before first more = record {
  pieces = first.pieces ++ more.pieces;
  gave = more.gave ∙ ap (λ l. l ++ more.pieces) first.gave ∙ append_assoc start first.pieces more.pieces;
}

-- what was read was added
pub chunk_gives :
    (answer : Chunk) (old new : List (List ℕ)) (before after got : List ℕ)
    → AddResult answer before after got → new ≡ old ++ got ∷ [] → ChunkGives answer old new before after
chunk_gives chunk.More old new before after got added gave = record { got = got; gave = gave; added = added.0 }
chunk_gives chunk.End old new before after got added gave = absurd added
chunk_gives chunk.TooLarge old new before after got added gave = record { got = got; gave = gave; added = added.0 }
chunk_gives chunk.Failed old new before after got added gave = absurd added
chunk_gives chunk.NoMemory old new before after got added gave = record { pieces = got ∷ []; gave = gave }

pub ruleset giving = (gives_none, gives_more, gives_all, gives_too_much, gives_some, gives_some_more)

-- the log of an opened file is appended to the log of the files before it
behind :
    (old new before after pieces : List (List ℕ))
    → after ≡ before ++ pieces → before ≡ [] → new ≡ old ++ after → new ≡ old ++ pieces
behind old new before after pieces gave none noted =
    noted ∙ ap (λ l. old ++ l) (gave ∙ ap (λ l. l ++ pieces) none)

pub opened_gives :
    (answer : ReadAnswer) (old new before after : List (List ℕ))
    → ReadGives answer before after → before ≡ [] → new ≡ old ++ after → ReadGives answer old new
opened_gives (Read bytes) old new before after given none noted = record {
  pieces = given.pieces;
  come = given.come;
  gave = behind old new before after (given.pieces ++ [] ∷ []) (given.gave ∙ append_assoc before given.pieces ([] ∷ [])) none noted
      ∙ sym (append_assoc old given.pieces ([] ∷ []));
}
opened_gives Absent old new before after given none noted =
    noted ∙ ap (λ l. old ++ l) (given ∙ none) ∙ append-nil old
opened_gives TooLarge old new before after given none noted = record {
  pieces = given.pieces;
  more = given.more;
  gave = behind old new before after given.pieces given.gave none noted;
}
opened_gives Failed old new before after given none noted =
    record { pieces = given.pieces; gave = behind old new before after given.pieces given.gave none noted }
opened_gives NoMemory old new before after given none noted =
    record { pieces = given.pieces; gave = behind old new before after given.pieces given.gave none noted }

-- a file that was not opened gave nothing
refusal_gives : (kind : ErrorKind) (now : List (List ℕ)) → ReadGives (open_refusal_of kind) now now
refusal_gives NotFound now = refl
refusal_gives _ now = record { pieces = []; gave = sym (append-nil now) }

pub refused_gives :
    (answer : ReadAnswer) (kind : ErrorKind) (now : List (List ℕ))
    → answer ≡ open_refusal_of kind → ReadGives answer now now
refused_gives answer kind now is = subst (λ a. ReadGives a now now) (sym is) (refusal_gives kind now)

-- and the answer is within the limit
refusal_within : (kind : ErrorKind) → IsWithinLimit (open_refusal_of kind)
refusal_within NotFound = tt
refusal_within _ = tt

pub refused_within : (answer : ReadAnswer) (kind : ErrorKind) → answer ≡ open_refusal_of kind → IsWithinLimit answer
refused_within answer kind is = subst IsWithinLimit (sym is) (refusal_within kind)
