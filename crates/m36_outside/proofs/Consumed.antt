-- Laws of a reader whose bytes are known: the bytes that were read are the first ones that it had.
use Rattle.std.proofs.Common.{◌≡◌, ℕ, ◌<◌, ◌≤◌, List, [], ◌++◌, length, take, Option, Some, None, IfSome, refl, sym, ap, ◌∙◌, arith, length-append}
use Rattle.std.proofs.lemmas.List.{append-nil, append_assoc}
use Rattle.std.specs.Io.KnownBytes.{Consumes, Keeps, IsAtEnd}
use Rattle.m36_outside.specs.Chunk.{ConsumesIntoText, AddResult, ChunkResult}
use Rattle.m36_outside.specs.Piece.{ConsumesIntoBuffer}
use Rattle.m36_outside.specs.ReadAnswer.{file_limit}
use Rattle.m36_outside.specs.declared.reading.Chunk.{Chunk}
use Rattle.m36_outside.specs.declared.reading.Chunk.TheVariants.{More, End, TooLarge, Failed, NoMemory}

-- nothing was read yet
pub consumes_none : (now : Option (List ℕ)) → Consumes now now []
consumes_none None = tt
consumes_none (Some left) = refl

-- one more read
pub consumes_more :
    (start now next : Option (List ℕ)) (before after : List ℕ)
    → Consumes start now before → ConsumesIntoText now next before after → Consumes start next after
consumes_more None now next before after first more = tt
consumes_more (Some all) None next before after first more = absurd first
consumes_more (Some all) (Some left) None before after first more = absurd more.taken
consumes_more (Some all) (Some left) (Some rest) before after first more =
    first ∙ ap (λ l. before ++ l) more.taken ∙ sym (append_assoc before more.got rest) ∙ ap (λ l. l ++ rest) (sym more.added)

-- at the end, all was read
pub consumes_all :
    (start now : Option (List ℕ)) (text : List ℕ)
    → Consumes start now text → IsAtEnd now → IfSome start (λ all. Some all ≡ Some text)
consumes_all None now text first end = tt
consumes_all (Some all) None text first end = absurd first
consumes_all (Some all) (Some left) text first end = ap (λ l. Some l) (first ∙ ap (λ l. text ++ l) end ∙ append-nil text)

-- if too much was read, the file has too much
pub consumes_too_much :
    (start now : Option (List ℕ)) (text : List ℕ)
    → Consumes start now text → file_limit < length text
    → IfSome start (λ all. (bytes : List ℕ) × (Some all ≡ Some bytes) × (file_limit < length bytes))
consumes_too_much None now text first more = tt
consumes_too_much (Some all) None text first more = absurd first
consumes_too_much (Some all) (Some left) text first more =
    (all, refl, omega (arith, ap length first, length-append text left))

-- what was read was added
pub chunk_says :
    (answer : Chunk) (old new : Option (List ℕ)) (before after got : List ℕ)
    → AddResult answer before after got → Consumes old new got → ChunkResult answer old new before after
chunk_says More old new before after got added taken = (record { got = got; taken = taken; added = added.0 }, added.1)
chunk_says End old new before after got added taken = absurd added
chunk_says TooLarge old new before after got added taken = (record { got = got; taken = taken; added = added.0 }, added.1)
chunk_says Failed old new before after got added taken = tt
chunk_says NoMemory old new before after got added taken = tt

pub ruleset consumed = (consumes_none, consumes_more, consumes_all, consumes_too_much)

-- a read after reads that took nothing
pub consumes_kept :
    (start now next : Option (List ℕ)) (bytes : List ℕ)
    → Keeps start now → Consumes now next bytes → Consumes start next bytes
consumes_kept None now next bytes same more = tt
consumes_kept (Some all) None next bytes same more = absurd same
consumes_kept (Some all) (Some left) None bytes same more = absurd more
consumes_kept (Some all) (Some left) (Some rest) bytes same more = sym same ∙ more

-- a read that gave bytes, after reads that gave none
pub piece_got :
    (start now next : Option (List ℕ)) (count : ℕ) (into : List ℕ)
    → Keeps start now → Consumes now next (take count into) → 1 ≤ count → count ≤ length into
    → IfSome start (λ left. ConsumesIntoBuffer (Some left) next count into)
piece_got None now next count into first more some room = tt
piece_got (Some left) None next count into first more some room = absurd first
piece_got (Some left) (Some same) None count into first more some room = absurd more
piece_got (Some left) (Some same) (Some rest) count into first more some room =
    record { some = some; room = room; left = ap (λ l. Some l) (sym first ∙ more) }

-- a read that found the end, after reads that gave none
pub piece_end :
    (start now next : Option (List ℕ)) (into : List ℕ)
    → Keeps start now → Consumes now next (take 0 into) → IsAtEnd next
    → IfSome start (λ left. (left ≡ []) × (next ≡ Some left))
piece_end None now next into first more end = tt
piece_end (Some left) None next into first more end = absurd first
piece_end (Some left) (Some same) None into first more end = absurd more
piece_end (Some left) (Some same) (Some rest) into first more end =
    let all : left ≡ rest = sym first ∙ more in (all ∙ end, ap (λ l. Some l) (sym all))

-- a read that failed, after reads that gave none
pub piece_failed :
    (start now next : Option (List ℕ))
    → Keeps start now → Keeps now next → IfSome start (λ left. next ≡ Some left)
piece_failed None now next first more = tt
piece_failed (Some left) None next first more = absurd first
piece_failed (Some left) (Some same) None first more = absurd more
piece_failed (Some left) (Some same) (Some rest) first more = ap (λ l. Some l) (more ∙ first)

-- reads that gave nothing change nothing
pub keeps_on : (start now next : Option (List ℕ)) → Keeps start now → Keeps now next → Keeps start next
keeps_on None now next first more = tt
keeps_on (Some left) None next first more = absurd first
keeps_on (Some left) (Some same) None first more = absurd more
keeps_on (Some left) (Some same) (Some rest) first more = more ∙ first

pub keeps_all : (now : Option (List ℕ)) → Keeps now now
keeps_all None = tt
keeps_all (Some left) = refl

-- a piece of an input whose bytes are not known
pub piece_unknown : (count : ℕ) (into : List ℕ) → 1 ≤ count → count ≤ length into → ConsumesIntoBuffer None None count into
piece_unknown count into some room = record { some = some; room = room; left = refl }

pub ruleset pieces = (piece_got, piece_end, piece_failed, piece_unknown, keeps_on, keeps_all)
