-- Laws of a list of named files: what a look-up finds, and what setting a file changes.
use Rattle.std.proofs.Common.{◌≡◌, ℕ, ◌+◌, ◌<◌, ◌≤◌, Bool, true, false, not, cond, List, [], ◌∷◌, ◌++◌, length, get_or, set, drop, Some, None, suc, inl, inr, refl, sym, ap, ◌∙◌, arith, bytes_eq}
use Rattle.std.specs.Cmp.Lexicographic.{bytes_decides}
use Rattle.std.proofs.lemmas.Bool.{cases_Bool, true≢false}
use Rattle.std.specs.List.{position_or_len}
use Rattle.std.proofs.lemmas.List.{at_drop_more}
use Rattle.m36_outside.specs.Files.{with_file}
use Rattle.m36_outside.specs.FileList.{file_named, has_name}
use Rattle.m36_outside.specs.declared.file_list.NamedFile.{NamedFile}

-- the first of the files that are left has the name
pub place_found :
    (files : List NamedFile) (name : List ℕ) (from : ℕ) (file : NamedFile)
    → from < length files → file ≡ get_or files from file → has_name name file ≡ true
    → position_or_len (has_name name) (drop from files) ≡ 0
place_found files name from file inside at found =
    at_drop_more (position_or_len (has_name name)) files from file inside
    ∙ ap (λ f. position_or_len (has_name name) (f ∷ drop (from + 1) files)) (sym at)
    ∙ ap (λ b. cond (not b) (1 + position_or_len (has_name name) (drop (from + 1) files)) 0) found

-- it has another name
pub place_more :
    (files : List NamedFile) (name : List ℕ) (from : ℕ) (file : NamedFile)
    → from < length files → file ≡ get_or files from file → has_name name file ≡ false
    → position_or_len (has_name name) (drop from files) ≡ 1 + position_or_len (has_name name) (drop (from + 1) files)
place_more files name from file inside at other =
    at_drop_more (position_or_len (has_name name)) files from file inside
    ∙ ap (λ f. position_or_len (has_name name) (f ∷ drop (from + 1) files)) (sym at)
    ∙ ap (λ b. cond (not b) (1 + position_or_len (has_name name) (drop (from + 1) files)) 0) other

pub ruleset places = (place_found, place_more)

-- nested equal choices are one choice
once : {A : Type 0} (b : Bool) (x y z : A) → cond b x z ≡ cond b x (cond b y z)
once true x y z = refl
once false x y z = refl

-- two choices that exclude each other commute
apart : {A : Type 0} (a b : Bool) (x y z : A) → (a ≡ true → b ≡ false) → cond a x (cond b y z) ≡ cond b y (cond a x z)
apart true true x y z h = let e : true ≡ false = h refl in cc
apart true false x y z h = refl
apart false true x y z h = refl
apart false false x y z h = refl

-- a file with the name
same_name : (name : List ℕ) (file : NamedFile) → has_name name file ≡ true → name ≡ file.name
same_name name file found = (bytes_decides name file.name).0 found

-- a file with another name is not the one that is looked up
other_name :
    (name other : List ℕ) (file : NamedFile)
    → has_name name file ≡ false → has_name other file ≡ true → bytes_eq other name ≡ false
other_name name other file differs found = elim (cases_Bool (bytes_eq other name)) [
  | inl e ↦ let same : other ≡ name = (bytes_decides other name).0 e in
      let both : has_name other file ≡ has_name name file = ap (λ n. has_name n file) same in
      absurd (true≢false (sym found ∙ both ∙ differs))
  | inr e ↦ e
]

-- the file at the index of its name is what a look-up finds
pub named_at :
    (files : List NamedFile) (name : List ℕ) (at : ℕ) (file : NamedFile)
    → at ≡ position_or_len (has_name name) files → at < length files → file ≡ get_or files at file
    → file_named files name ≡ Some file.content
named_at [] name at file place inside is = absurd (omega arith)
named_at (x ∷ xs) name at file place inside is = elim (cases_Bool (has_name name x)) [
  | inl e ↦ let first : at ≡ 0 = rw e at place in
      let same : file ≡ x = rw first at is in
      rw e (ap (λ f. Some f.content) (sym same))
  | inr e ↦ let later : at ≡ 1 + position_or_len (has_name name) xs = rw e at place in
      let next : at ≡ suc (position_or_len (has_name name) xs) = omega arith in
      let same : file ≡ get_or xs (position_or_len (has_name name) xs) file = rw next at is in
      rw e (named_at xs name (position_or_len (has_name name) xs) file refl (omega arith) same)
]

-- after the last index there is none
pub named_none :
    (files : List NamedFile) (name : List ℕ)
    → length files ≤ position_or_len (has_name name) files → file_named files name ≡ None
named_none [] name past = refl
named_none (x ∷ xs) name past = elim (cases_Bool (has_name name x)) [
  | inl e ↦ let few : length (x ∷ xs) ≤ 0 = rw e at past in absurd (omega arith)
  | inr e ↦ let more : length (x ∷ xs) ≤ 1 + position_or_len (has_name name) xs = rw e at past in
      rw e (named_none xs name (omega arith))
]

-- a new content for the file at the index of a name
pub named_set :
    (files : List NamedFile) (name content : List ℕ) (at : ℕ) (file : NamedFile) (other : List ℕ)
    → at ≡ position_or_len (has_name name) files → at < length files → file ≡ get_or files at file
    → file_named (set files at (record { name = file.name; content = content })) other ≡ with_file name (Some content) (file_named files) other
unfolding with_file
named_set [] name content at file other place inside is = absurd (omega arith)
named_set (x ∷ xs) name content at file other place inside is = elim (cases_Bool (has_name name x)) [
  | inl e ↦ let first : at ≡ 0 = rw e at place in
      let same : file ≡ x = rw first at is in
      let named : file.name ≡ name = ap (λ f. f.name) same ∙ sym (same_name name x e) in
      let held : x.name ≡ name = sym (same_name name x e) in
      rw (first, named, held) (once (bytes_eq other name) (Some content) (Some x.content) (file_named xs other))
  | inr e ↦ let later : at ≡ 1 + position_or_len (has_name name) xs = rw e at place in
      let next : at ≡ suc (position_or_len (has_name name) xs) = omega arith in
      let same : file ≡ get_or xs (position_or_len (has_name name) xs) file = rw next at is in
      let rest = named_set xs name content (position_or_len (has_name name) xs) file other refl (omega arith) same in
      rw (next, rest) (apart (has_name other x) (bytes_eq other name) (Some x.content) (Some content) (file_named xs other) (other_name name other x e))
]

-- a file of a name that had none
pub named_push :
    (files : List NamedFile) (name content other : List ℕ)
    → length files ≤ position_or_len (has_name name) files
    → file_named (files ++ record { name = name; content = content } ∷ []) other ≡ with_file name (Some content) (file_named files) other
unfolding with_file
named_push [] name content other past = refl
named_push (x ∷ xs) name content other past = elim (cases_Bool (has_name name x)) [
  | inl e ↦ let few : length (x ∷ xs) ≤ 0 = rw e at past in absurd (omega arith)
  | inr e ↦ let more : length (x ∷ xs) ≤ 1 + position_or_len (has_name name) xs = rw e at past in
      let rest = named_push xs name content other (omega arith) in
      rw rest (apart (has_name other x) (bytes_eq other name) (Some x.content) (Some content) (file_named xs other) (other_name name other x e))
]

-- the same for all names at once, in the form that the code uses
pub set_named :
    (files : List NamedFile) (name content bytes : List ℕ) (at : ℕ) (file : NamedFile)
    → bytes ≡ content → at ≡ position_or_len (has_name name) files → at < length files → file ≡ get_or files at file
    → file_named (set files at (record { name = file.name; content = bytes })) ≡ with_file name (Some content) (file_named files)
set_named files name content bytes at file same place inside is =
    ap (λ b. file_named (set files at (record { name = file.name; content = b }))) same
    ∙ (λ i other. named_set files name content at file other place inside is i)

pub push_named :
    (files after : List NamedFile) (name content : List ℕ) (at : ℕ)
    → after ≡ files ++ record { name = name; content = content } ∷ []
    → at ≡ position_or_len (has_name name) files → length files ≤ at
    → file_named after ≡ with_file name (Some content) (file_named files)
push_named files after name content at now place past =
    ap file_named now ∙ (λ i other. named_push files name content other (omega arith) i)

pub ruleset files_named = (named_at, named_none, set_named, push_named)
