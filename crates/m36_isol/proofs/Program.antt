-- Programs of a step: what holds of every run of a program by its structure, and when two runs have
-- the same results.
use Rattle.std.proofs.Common.{◌≡◌, refl, subst}
use Rattle.std.specs.Prelude.{Result, Ok, Err}
use Rattle.m36_model.specs.Registers.{RegsFields}
use Rattle.m36_model.specs.Act.{Request, Answer, Act, done, ask, and_then}
use Rattle.m36_model.specs.Store.{Store, Midstep, ServeResult, ProgramResult, serve, run}
use Rattle.m36_model.specs.declared.outcome.Fault.{Fault}
use Rattle.m36_model.specs.declared.outcome.Halt.{Halt}

-- Each request of the program may be made, and its value is as stated. What is known of an answer
-- may be used for the rest of the program.
abbrev pub Meets : {A : Type 0} → (Request → Type 0) → (Request → Answer → Type 0) → (A → Type 0) → Act A → Type 0
Meets may fact post (done a) = post a
Meets may fact post (ask q next) =
    may q × ((f : Fault) → Meets may fact post (next (Err f))) × ((a : Answer) → fact q a → Meets may fact post (next (Ok a)))

-- one program after another
pub meets_then : {A B : Type 0} (may : Request → Type 0) (fact : Request → Answer → Type 0) (mid : A → Type 0) (post : B → Type 0) (m : Act A) (k : A → Act B) → Meets may fact mid m → ((a : A) → mid a → Meets may fact post (k a)) → Meets may fact post (and_then m k)
unfolding and_then
meets_then may fact mid post (done a) k h next = next a h
meets_then may fact mid post (ask q n) k h next =
    (h.0, (λ f. meets_then may fact mid post (n (Err f)) k (h.1 f) next), (λ a known. meets_then may fact mid post (n (Ok a)) k (h.2 a known) next))

-- what holds of a value, or of an end
abbrev pub Either : {A : Type 0} → (A → Type 0) → (Halt → Type 0) → Result A Halt → Type 0
Either ok halted (Ok a) = ok a
Either ok halted (Err h) = halted h

-- the replies to one request to two stores
pub record ArePageFaultsServed {S S' : Type 0} (Alike : Midstep S → Midstep S' → Type 0) (Known : Answer → Type 0) (t : ServeResult S) (u : ServeResult S') : Type 0 where
  pub reply : t.reply ≡ u.reply
  pub mid : Alike t.mid u.mid
  pub known : (a : Answer) → t.reply ≡ Ok a → Known a

pub record AreRan {A S S' : Type 0} (Alike : Midstep S → Midstep S' → Type 0) (Post : A → Type 0) (t : ProgramResult A S) (u : ProgramResult A S') : Type 0 where
  pub value : t.value ≡ u.value
  pub mid : Alike t.mid u.mid
  pub post : Post t.value

-- how the program continues after a reply
meets_reply : {A : Type 0} (may : Request → Type 0) (fact : Request → Answer → Type 0) (post : A → Type 0) (q : Request) (next : Result Answer Fault → Act A) → Meets may fact post (ask q next) → (reply : Result Answer Fault) → ((a : Answer) → reply ≡ Ok a → fact q a) → Meets may fact post (next reply)
meets_reply may fact post q next h (Ok a) known = h.2 a (known a refl)
meets_reply may fact post q next h (Err f) known = h.1 f

-- Two runs of one program have the same results if each request that may be made has the same
-- reply.
module _ {A S S' : Type 0} (o : Store S) (o' : Store S') (g : RegsFields) (may : Request → Type 0) (fact : Request → Answer → Type 0) (Alike : Midstep S → Midstep S' → Type 0) (alike : (x : Midstep S) (y : Midstep S') (q : Request) → may q → Alike x y → ArePageFaultsServed Alike (fact q) (serve o g x q) (serve o' g y q)) (post : A → Type 0) where
  pub run_alike : (m : Act A) (x : Midstep S) (y : Midstep S') → Meets may fact post m → Alike x y → AreRan Alike post (run o g m x) (run o' g m y)
  unfolding run
  run_alike (done a) x y h k = record { value = refl; mid = k; post = h }
  run_alike (ask q next) x y h k =
      let s = alike x y q h.0 k in
      let t = serve o g x q in
      let u = serve o' g y q in
      subst (λ (r : Result Answer Fault). AreRan Alike post (run o g (next t.reply) t.mid) (run o' g (next r) u.mid)) s.reply (run_alike (next t.reply) t.mid u.mid (meets_reply may fact post q next h t.reply s.known) s.mid)
