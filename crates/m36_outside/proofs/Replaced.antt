-- Laws of a file that is replaced: of spare names, of the calls that change names, and of the errors of each step.
use Rattle.std.proofs.Common.{◌≡◌, ℕ, suc, ◌+◌, ◌⊎◌, inl, inr, Bool, true, false, List, [], ◌∷◌, ◌++◌, replicate, refl, sym, ap, subst, ◌∙◌, arith}
use Rattle.std.proofs.lemmas.List.{append-nil, append_assoc, replicate_more}
use Rattle.std.specs.declared.io.ErrorKind.{ErrorKind}
use Rattle.std.specs.declared.io.ErrorKind.TheVariants.{AlreadyExists}
use Rattle.m36_outside.specs.NameCalls.{ErrorUnless, LogsFailure, MakesNone, MakesSpare, ReplaceCalls, SpareErrors, SpareUsed}
use Rattle.m36_outside.specs.NameCalls.{spare_name, refused_tries}
use Rattle.m36_outside.specs.Signals.{Signals, GivesUp}
use Rattle.m36_outside.specs.System.{FileHasError}
use Rattle.m36_outside.specs.declared.name_calls.NameCall.{NameCall}
use Rattle.m36_outside.specs.declared.name_calls.NameCall.TheVariants.{Make, Rename, Remove}
use Rattle.m36_outside.specs.declared.sink.Put.{Put}
use Rattle.m36_outside.specs.declared.sink.Put.TheVariants.{Done, Failed}
use Rattle.m36_outside.proofs.Signalled.{signals_none, signals_on, gives_up_on}

-- ---- spare names

tried_suc : (n : ℕ) → refused_tries (suc n) ≡ refused_tries n ++ Make (spare_name n) false ∷ []
unfolding refused_tries
tried_suc n = refl

tried_next : (n : ℕ) → refused_tries (n + 1) ≡ refused_tries n ++ Make (spare_name n) false ∷ []
tried_next n = let e : n + 1 ≡ suc n = omega arith in ap refused_tries e ∙ tried_suc n

tried_zero : refused_tries 0 ≡ []
unfolding refused_tries
tried_zero = refl

pub tried_none : (calls : List NameCall) → calls ≡ calls ++ refused_tries 0
tried_none calls = sym (append-nil calls) ∙ ap (λ l. calls ++ l) (sym tried_zero)

pub refused_none : (errors : List ErrorKind) → errors ≡ errors ++ replicate 0 AlreadyExists
refused_none errors = sym (append-nil errors)

-- one more spare name was refused
pub tried_more :
    (start now next : List NameCall) (count : ℕ) (name : List ℕ)
    → now ≡ start ++ refused_tries count → name ≡ spare_name count → next ≡ now ++ Make name false ∷ []
    → next ≡ start ++ refused_tries (count + 1)
tried_more start now next count name first is more =
    more ∙ ap (λ n. now ++ Make n false ∷ []) is ∙ ap (λ l. l ++ Make (spare_name count) false ∷ []) first
    ∙ append_assoc start (refused_tries count) (Make (spare_name count) false ∷ [])
    ∙ ap (λ l. start ++ l) (sym (tried_next count))

pub refused_more :
    (start now next : List ErrorKind) (count : ℕ)
    → now ≡ start ++ replicate count AlreadyExists → next ≡ now ++ AlreadyExists ∷ []
    → next ≡ start ++ replicate (count + 1) AlreadyExists
refused_more start now next count first more =
    more ∙ ap (λ l. l ++ AlreadyExists ∷ []) first
    ∙ append_assoc start (replicate count AlreadyExists) (AlreadyExists ∷ [])
    ∙ ap (λ l. start ++ l) (replicate_more count AlreadyExists)

pub makes_spare :
    (spare : List ℕ) (count : ℕ) (calls now calls' : List NameCall) (errors errors' : List ErrorKind)
    → now ≡ calls ++ refused_tries count → spare ≡ spare_name count → calls' ≡ now ++ Make spare true ∷ []
    → errors' ≡ errors ++ replicate count AlreadyExists
    → MakesSpare spare calls calls' errors errors'
makes_spare spare count calls now calls' errors errors' so_far is noted refused = record {
  count = count;
  name = is;
  noted = noted ∙ ap (λ l. l ++ Make spare true ∷ []) so_far;
  refused = refused;
}

-- a spare name was refused with another error
pub makes_none :
    (name : List ℕ) (count : ℕ) (kind : ErrorKind) (calls now calls' : List NameCall) (errors before errors' : List ErrorKind)
    → now ≡ calls ++ refused_tries count → name ≡ spare_name count → calls' ≡ now ++ Make name false ∷ []
    → before ≡ errors ++ replicate count AlreadyExists → errors' ≡ before ++ kind ∷ []
    → MakesNone calls calls' errors errors'
makes_none name count kind calls now calls' errors before errors' so_far is noted first refused = record {
  count = count + 1;
  noted = tried_more calls now calls' count name so_far is noted;
  before = count;
  kind = kind;
  refused = refused ∙ ap (λ l. l ++ kind ∷ []) first;
}

-- all spare names were refused
pub makes_none_of_all :
    (count : ℕ) (calls calls' : List NameCall) (errors errors' : List ErrorKind)
    → calls' ≡ calls ++ refused_tries (count + 1) → errors' ≡ errors ++ replicate (count + 1) AlreadyExists
    → MakesNone calls calls' errors errors'
makes_none_of_all count calls calls' errors errors' noted refused = record {
  count = count + 1;
  noted = noted;
  before = count;
  kind = AlreadyExists;
  refused = refused ∙ ap (λ l. errors ++ l) (sym (replicate_more count AlreadyExists))
      ∙ sym (append_assoc errors (replicate count AlreadyExists) (AlreadyExists ∷ []));
}

-- ---- the spare file is written, renamed and removed

fails_after :
    (old now failed : List ErrorKind) → Signals old now
    → GivesUp now failed ⊎ ((before : List ErrorKind) × Signals now before × ErrorUnless false before failed)
    → GivesUp old failed ⊎ ((before : List ErrorKind) × Signals old before × ErrorUnless false before failed)
fails_after old now failed first (inl cause) = inl (gives_up_on old now failed first cause)
fails_after old now failed first (inr cause) = inr (cause.0, signals_on old now cause.0 first cause.1, cause.2)

-- a step after one that was done
pub errors_after :
    (put : Put) (old now new : List ErrorKind)
    → Signals old now → SpareErrors put now new → SpareErrors put old new
errors_after Done old now new first signals = signals_on old now new first signals
errors_after Failed old now new first fault =
    record { failed = fault.failed; cause = fails_after old now fault.failed first fault.cause; removal = fault.removal }

-- the calls after those that changed no name
pub used_after :
    (put : Put) (spare name : List ℕ) (old now new : List NameCall)
    → now ≡ old → SpareUsed put spare name now new → SpareUsed put spare name old new
used_after put spare name old now new same used = subst (λ l. SpareUsed put spare name l new) same used

pub removed :
    (spare name : List ℕ) (done : Bool) (old now new : List NameCall)
    → now ≡ old → new ≡ now ++ Remove spare done ∷ [] → SpareUsed Failed spare name old new
removed spare name done old now new same noted =
    (done, inl (noted ∙ ap (λ l. l ++ Remove spare done ∷ []) same))

-- ---- the file

replaced :
    (put : Put) (spare name : List ℕ) (calls now new : List NameCall) (errors errors' : List ErrorKind)
    → MakesSpare spare calls now errors errors' → SpareUsed put spare name now new → ReplaceCalls put name calls new
replaced Done spare name calls now new errors errors' made used = record {
  count = made.count;
  noted = used ∙ ap (λ l. l ++ Rename spare name true ∷ []) made.noted
      ∙ ap (λ s. calls ++ refused_tries made.count ++ Make s true ∷ [] ++ Rename s name true ∷ []) made.name;
}
replaced Failed spare name calls now new errors errors' made used = record {
  count = made.count;
  noted = inr (subst (λ l. SpareUsed Failed (spare_name made.count) name l new)
      (made.noted ∙ ap (λ s. calls ++ refused_tries made.count ++ Make s true ∷ []) made.name)
      (subst (λ s. SpareUsed Failed s name now new) made.name used));
}

pub replaced_as :
    (put : Put) (text spare named name : List ℕ) (calls now new : List NameCall) (errors errors' : List ErrorKind)
    → MakesSpare spare calls now errors errors' → text ≡ spare → named ≡ name → SpareUsed put text named now new
    → ReplaceCalls put name calls new
replaced_as put text spare named name calls now new errors errors' made is_spare is_name used =
    replaced put spare name calls now new errors errors' made
    (subst (λ n. SpareUsed put spare n now new) is_name (subst (λ s. SpareUsed put s named now new) is_spare used))

pub replaced_not :
    (name : List ℕ) (calls new : List NameCall) (errors errors' : List ErrorKind)
    → MakesNone calls new errors errors' → ReplaceCalls Failed name calls new
replaced_not name calls new errors errors' none = record { count = none.count; noted = inl none.noted }

-- no spare file had to be made
pub untouched : (name : List ℕ) (calls : List NameCall) → ReplaceCalls Failed name calls calls
untouched name calls = record { count = 0; noted = inl (tried_none calls) }

pub replaced_errors :
    (put : Put) (spare name : List ℕ) (calls calls' : List NameCall) (errors now new : List ErrorKind)
    → MakesSpare spare calls calls' errors now → SpareErrors put now new → FileHasError put name errors new
replaced_errors Done spare name calls calls' errors now new made signals =
    (made.count, subst (λ l. Signals l new) made.refused signals)
replaced_errors Failed spare name calls calls' errors now new made fault =
    record { why = inr (made.count, subst (λ l. LogsFailure l new) made.refused fault) }

pub replaced_errors_not :
    (name : List ℕ) (calls new : List NameCall) (errors errors' : List ErrorKind)
    → MakesNone calls new errors errors' → FileHasError Failed name errors errors'
replaced_errors_not name calls new errors errors' none = record {
  why = inr (
    none.before,
    record {
      failed = errors';
      cause = inr (errors ++ replicate none.before AlreadyExists, signals_none (errors ++ replicate none.before AlreadyExists), (none.kind, none.refused));
      removal = (true, refl);
    },
  );
}
