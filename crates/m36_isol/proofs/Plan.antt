-- Limits on the pages that a step references and on the references that it records, counted over
-- the program of a step. A reference to the page of the reference before it references no new page.
use Rattle.std.proofs.Common.{◌≡◌, refl, arith, eqb-true}
use Rattle.std.specs.Prelude.{ℕ, zero, suc, ◌+◌, ◌-◌, ◌/◌, ◌%◌, ◌≤◌, ◌≢◌, Bool, true, false, not, ◌&&◌, ◌==◌, if◌then◌else◌, slice_index, Option, Some, None, Result, Ok, Err}
use Rattle.std.proofs.lemmas.Bool.{eq-eqb}
use Rattle.m36_inst.specs.Instruction.{inst_of}
use Rattle.m36_inst.specs.Operands.{operand_of, is_privileged, takes_direct}
use Rattle.m36_inst.specs.declared.effect.Effect.{Effect}
use Rattle.m36_inst.specs.declared.effect.Effect.TheVariants as effect
use Rattle.m36_inst.specs.declared.operand.Operand.{Operand}
use Rattle.m36_inst.specs.declared.operand.Operand.TheVariants as kind
use Rattle.m36_model.specs.Fields.{AtFields}
use Rattle.m36_model.specs.Registers.{RegsFields}
use Rattle.m36_model.specs.Act.{RequestKind, Fetch, Indirect, Odd, Read, Write, Transfer, Call, Locate, Part, Whole, Request, Answer, Act, done, ask, and_then, answered, refer, either}
use Rattle.m36_model.specs.Act as act
use Rattle.m36_model.specs.Modification.{Point, Move, Ends, Fails, Reads, Counts, at_point, move_of_point}
use Rattle.m36_model.specs.FirstPoint.{first_point}
use Rattle.m36_model.specs.Tally.{indirect_only}
use Rattle.m36_model.specs.Chain.{indirect_request, ChainEnd, Formation, IndirectKind, Its, Itp, Plain, indirect_kind, kind_by_tag, after_word, after_tally, chain_by, chain_exhausted, chain}
use Rattle.m36_model.specs.Transfers.{is_taken}
use Rattle.m36_model.specs.Effect.{is_absa}
use Rattle.m36_model.specs.Step.{Performed, Operation, request_at, with_chain_tally, reading_word, changing, addressing, transferring, operate_by_kind, operate_direct, operate_on, operate, Ending, end_halted, end_completed, execute_fetched, operate_and_end, indirect_words, form_and_operate, no_address, execute_admitted, execute_unless_barred, decode, execute_decoded, program}
use Rattle.m36_model.specs.declared.outcome.Fault.{Fault}
use Rattle.m36_model.specs.declared.outcome.Halt.{Halt}
use Rattle.m36_model.specs.declared.outcome.Halt.TheVariants as halt
use Rattle.m36_word.specs.Field.{field}

-- the kinds that record a reference
abbrev pub adds : RequestKind → Bool
adds Fetch = true
adds Indirect = true
adds Odd = false
adds Read = true
adds Write = true
adds Transfer = false
adds Call = false
adds Locate = false

-- the kinds that reference pages
abbrev pub has_page : RequestKind → Bool
has_page Fetch = true
has_page Indirect = true
has_page Odd = true
has_page Read = true
has_page Write = true
has_page Transfer = false
has_page Call = false
has_page Locate = true

abbrev pub same_page : AtFields → AtFields → Bool
same_page last at = (last.seg == at.seg) && (last.word / 1024 == at.word / 1024)

abbrev pub fresh_by : Option AtFields → AtFields → Bool
fresh_by None at = true
fresh_by (Some last) at = not (same_page last at)

abbrev pub fresh : Option AtFields → Request → Bool
fresh last q = has_page q.kind && fresh_by last q.at

-- the place of the reference before a request
abbrev pub last_by : RequestKind → AtFields → Option AtFields
last_by Fetch at = Some at
last_by Indirect at = Some at
last_by Odd at = None
last_by Read at = Some at
last_by Write at = Some at
last_by Transfer at = None
last_by Call at = None
last_by Locate at = None

-- the odd word of a pair follows its even word
abbrev pub FollowsEven : Option AtFields → AtFields → Type 0
FollowsEven (Some last) at = (last.seg ≡ at.seg) × (at.word ≡ last.word + 1) × (last.word % 2 ≡ 0)
FollowsEven None at = ⊥

abbrev pub Follows : RequestKind → Option AtFields → AtFields → Type 0
Follows Fetch last at = Unit {0}
Follows Indirect last at = Unit {0}
Follows Odd last at = FollowsEven last at
Follows Read last at = Unit {0}
Follows Write last at = Unit {0}
Follows Transfer last at = Unit {0}
Follows Call last at = Unit {0}
Follows Locate last at = Unit {0}

-- the words of a reference are on one page
abbrev pub InPage : Request → Type 0
InPage q = (q.at.word % 1024 + q.count ≤ 1024) × (1 ≤ q.count)

abbrev pub cost : Bool → ℕ → ℕ
cost true n = suc n
cost false n = n

-- A program makes at most n references to new pages and records at most k references. What is left
-- of both at its end is as stated of its value.
abbrev pub Plan : {A : Type 0} → (ℕ → ℕ → A → Type 0) → ℕ → ℕ → Option AtFields → Act A → Type 0
Plan post n k last (done a) = post n k a
Plan post n k last (ask q next) =
    InPage q × Follows q.kind last q.at × (m : ℕ) × (j : ℕ) × (cost (fresh last q) m ≤ n) × (cost (adds q.kind) j ≤ k) × ((reply : Result Answer Fault) → Plan post m j (last_by q.kind q.at) (next reply))

-- one program after another
pub plan_then : {A B : Type 0} (mid : ℕ → ℕ → A → Type 0) (post : ℕ → ℕ → B → Type 0) (n k : ℕ) (last : Option AtFields) (m : Act A) (f : A → Act B) → Plan mid n k last m → ((n k : ℕ) (last : Option AtFields) (a : A) → mid n k a → Plan post n k last (f a)) → Plan post n k last (and_then m f)
unfolding and_then
plan_then mid post n k last (done a) f h rest = rest n k last a h
plan_then mid post n k last (ask q next) f h rest =
    (h.0, h.1, h.2, h.3, h.4, h.5, (λ reply. plan_then mid post h.2 h.3 (last_by q.kind q.at) (next reply) f (h.6 reply) rest))

-- the most that a reference costs
cost_more : (b : Bool) (n : ℕ) → cost b n ≤ suc n
cost_more true n = omega arith
cost_more false n = omega arith

-- a reference to the page of the one before costs nothing
same_is : (last at : AtFields) → last.seg ≡ at.seg → last.word / 1024 ≡ at.word / 1024 → fresh_by (Some last) at ≡ false
same_is last at e f =
    let x = eq-eqb last.seg at.seg e in
    let y = eq-eqb (last.word / 1024) (at.word / 1024) f in
    λ i. not (x i && y i)

free : (b : Bool) (n : ℕ) → b ≡ false → cost b n ≤ n
free true n h = cc
free false n h = omega arith

-- ---- the address chain

one_in : (w : ℕ) → (w % 1024 + 1 ≤ 1024) × (1 ≤ 1)
one_in w = (omega arith, omega arith)

-- what is left of both after the address, for the operand
abbrev Left : {A : Type 0} → ℕ → ℕ → A → Type 0
Left n k a = (1 ≤ n) × (2 ≤ k)

field_even : (w : ℕ) (b : Bool) (f : IndirectKind) → (w % 2 == 0) ≡ b → (if b then f else Plain) ≢ Plain → w % 2 ≡ 0
field_even w true f e h = eqb-true (w % 2) 0 e
field_even w false f e h = absurd (h refl)

pair_even : (w v : ℕ) → indirect_kind w v ≢ Plain → w % 2 ≡ 0
unfolding indirect_kind
pair_even w v h = field_even w (w % 2 == 0) (kind_by_tag (field v 30 6)) refl h

module _ (g : RegsFields) where
  abbrev PlansChain : ℕ → ℕ → Option AtFields → Formation → Type 0
  PlansChain n k last m = Plan Left n k last m

  -- what comes after an answer, and after a refusal
  answered_plan : {A : Type 0} (post : ℕ → ℕ → Result A Halt → Type 0) (n k : ℕ) (last : Option AtFields) (next : Answer → Act (Result A Halt)) → ((a : Answer) → Plan post n k last (next a)) → ((h : Halt) → post n k (Err h)) → (reply : Result Answer Fault) → Plan post n k last (answered next reply)
  answered_plan post n k last next h stop (Ok a) = h a
  answered_plan post n k last next h stop (Err f) = stop (halt.Fault f)

  exhausted_plan : (n k : ℕ) (last : Option AtFields) (p : Point) (m : Move) → 1 ≤ n → 2 ≤ k → PlansChain n k last (chain_exhausted p m)
  exhausted_plan n k last p (Ends at) h e = (h, e)
  exhausted_plan n k last p (Fails why) h e = (h, e)
  exhausted_plan n k last p (Reads word held) h e = (h, e)
  exhausted_plan n k last p Counts h e = (h, e)

  -- n more indirect words, from each point
  abbrev PlansOn : ℕ → (Point → Formation) → Type 0
  PlansOn c next = (n k : ℕ) (last : Option AtFields) (p : Point) → c + 1 ≤ n → c + 3 ≤ k → PlansChain n k last (next p)

  -- the odd word of a pair
  odd_free : (p : Point) (word : ℕ) → word % 2 ≡ 0 → fresh_by (Some (at_point p word)) (at_point p (word + 1)) ≡ false
  odd_free p word even =
      let page : word / 1024 ≡ (word + 1) / 1024 = omega arith in
      same_is (at_point p word) (at_point p (word + 1)) refl page

  odd_plan : (c n k : ℕ) (next : Point → Formation) → PlansOn c next → c + 1 ≤ n → c + 3 ≤ k → (p : Point) (word : ℕ) → word % 2 ≡ 0 → (point : Answer → Point) → PlansChain n k (Some (at_point p word)) (refer (indirect_request Odd p (word + 1)) (λ b. next (point b)))
  odd_plan c n k next h x y p word even point =
      (one_in (word + 1), (refl, refl, even), n, k, free _ n (odd_free p word even), omega arith, (λ reply. answered_plan Left n k None (λ b. next (point b)) (λ b. h n k None (point b) x y) (λ why. (omega arith, omega arith)) reply))

  word_plan : (c n k : ℕ) (next : Point → Formation) → PlansOn c next → c + 1 ≤ n → c + 3 ≤ k → (p : Point) (word : ℕ) (held : Option ℕ) (a : Answer) (f : IndirectKind) → (f ≢ Plain → word % 2 ≡ 0) → PlansChain n k (Some (at_point p word)) (after_word next g p word held a f)
  word_plan c n k next h x y p word held a Plain even = h n k _ _ x y
  word_plan c n k next h x y p word held a Its even =
      odd_plan c n k next h x y p word (even (λ e. cc)) (λ b. _)
  word_plan c n k next h x y p word held a Itp even =
      odd_plan c n k next h x y p word (even (λ e. cc)) (λ b. _)

  -- the new value of a tally word goes to the word that was read
  tally_plan : (n k : ℕ) → 1 ≤ n → 3 ≤ k → (p : Point) (td : ℕ) (a : Answer) (only : Bool) → PlansChain n k (Some (at_point p p.y)) (after_tally p td a only)
  tally_plan n k x y p td a true = (omega arith, omega arith)
  tally_plan n k x y p td a false =
      let same = free _ n (same_is (at_point p p.y) (at_point p p.y) refl refl) in
      (one_in p.y, tt, n, 2, same, omega arith, (λ reply. answered_plan Left n 2 _ _ (λ b. (omega arith, omega arith)) (λ why. (omega arith, omega arith)) reply))

  move_plan : (c : ℕ) (next : Point → Formation) → PlansOn c next → (n k : ℕ) (last : Option AtFields) → suc c + 1 ≤ n → suc c + 3 ≤ k → (p : Point) (m : Move) → PlansChain n k last (chain_by next g p m)
  move_plan c next h n k last x y p (Ends at) = (omega arith, omega arith)
  move_plan c next h n k last x y p (Fails why) = (omega arith, omega arith)
  move_plan c next h n k last x y p (Reads word held) =
      let most = cost_more (fresh last (indirect_request Indirect p word)) (c + 1) in
      (one_in word, tt, c + 1, c + 3, omega arith, omega arith, (λ reply. answered_plan Left (c + 1) (c + 3) _ _ (λ a. word_plan c (c + 1) (c + 3) next h (omega arith) (omega arith) p word held a (indirect_kind word (slice_index a.words 0)) (pair_even word (slice_index a.words 0))) (λ why. (omega arith, omega arith)) reply))
  move_plan c next h n k last x y p Counts =
      let most = cost_more (fresh last (indirect_request Indirect p p.y)) (c + 1) in
      (one_in p.y, tt, c + 1, c + 3, omega arith, omega arith, (λ reply. answered_plan Left (c + 1) (c + 3) _ _ (λ a. tally_plan (c + 1) (c + 3) (omega arith) (omega arith) p (p.tag % 16) a (p.tag % 16 == indirect_only)) (λ why. (omega arith, omega arith)) reply))

  chain_plan : (c : ℕ) → PlansOn c (chain c g)
  unfolding chain
  chain_plan zero n k last p x y = exhausted_plan n k last p (move_of_point g p) (omega arith) (omega arith)
  chain_plan (suc c) n k last p x y = move_plan c (chain c g) (chain_plan c) n k last x y p (move_of_point g p)

  -- ---- the operand

  abbrev Any : {A : Type 0} → ℕ → ℕ → A → Type 0
  Any n k a = Unit {0}

  abbrev PlansOperation : ℕ → ℕ → Option AtFields → Operation → Type 0
  PlansOperation n k last m = Plan Any n k last m

  -- one reference, and then the effect
  one_plan : (n k : ℕ) (last : Option AtFields) → 1 ≤ n → 2 ≤ k → (q : Request) → InPage q → Follows q.kind last q.at → (next : Answer → Operation) → ((a : Answer) → PlansOperation 0 0 (last_by q.kind q.at) (next a)) → PlansOperation n k last (refer q next)
  one_plan n k last x y q inside follows next h =
      let pages = cost_more (fresh last q) 0 in
      let records = cost_more (adds q.kind) 0 in
      (inside, follows, 0, 0, omega arith, omega arith, (λ reply. answered_plan Any 0 0 (last_by q.kind q.at) next h (λ why. tt) reply))

  reading_plan : (e : Effect) (i : ℕ) (n k : ℕ) (last : Option AtFields) → 1 ≤ n → 2 ≤ k → (c : ChainEnd) → PlansOperation n k last (reading_word e i g c)
  reading_plan e i n k last x y c = one_plan n k last x y (request_at Read c 1) (one_in c.last.at.word) tt _ (λ a. tt)

  changing_plan : (e : Effect) (i : ℕ) (n k : ℕ) (last : Option AtFields) → 1 ≤ n → 2 ≤ k → (c : ChainEnd) (part : Part) → PlansOperation n k last (changing e i g c part)
  changing_plan e i n k last x y c part =
      let pages = cost_more (fresh last (request_at Read c 1)) 0 in
      let same = free _ 0 (same_is c.last.at c.last.at refl refl) in
      (one_in c.last.at.word, tt, 0, 1, omega arith, omega arith, (λ reply. answered_plan Any 0 1 _ _ (λ a. (one_in c.last.at.word, tt, 0, 0, same, omega arith, (λ reply. answered_plan Any 0 0 _ _ (λ b. tt) (λ why. tt) reply))) (λ why. tt) reply))

  pair_in : (w : ℕ) → ((w - w % 2) % 1024 + 2 ≤ 1024) × (1 ≤ 2)
  pair_in w = (omega arith, omega arith)

  block_in : (w : ℕ) → ((w - w % 16) % 1024 + 16 ≤ 1024) × (1 ≤ 16)
  block_in w = (omega arith, omega arith)

  addressing_plan : (e : Effect) (i : ℕ) (n k : ℕ) (last : Option AtFields) → 1 ≤ n → 2 ≤ k → (c : ChainEnd) (located : Bool) → PlansOperation n k last (addressing e i g c located)
  addressing_plan e i n k last x y c false = tt
  addressing_plan e i n k last x y c true = one_plan n k last x y (request_at Locate c 1) (one_in c.last.at.word) tt _ (λ a. tt)

  transferring_plan : (e : Effect) (i : ℕ) (n k : ℕ) (last : Option AtFields) → 1 ≤ n → 2 ≤ k → (c : ChainEnd) (taken : Bool) → PlansOperation n k last (transferring e i g c taken)
  transferring_plan e i n k last x y c false = tt
  transferring_plan e i n k last x y c true = one_plan n k last x y (request_at Transfer c 1) (one_in c.last.at.word) tt _ (λ a. tt)

  kind_plan : (e : Effect) (i : ℕ) (n k : ℕ) (last : Option AtFields) → 1 ≤ n → 2 ≤ k → (c : ChainEnd) (o : Operand) → PlansOperation n k last (operate_by_kind e i g c o)
  kind_plan e i n k last x y c kind.R = reading_plan e i n k last x y c
  kind_plan e i n k last x y c kind.R2 = one_plan n k last x y (request_at Read c 2) (pair_in c.last.at.word) tt _ (λ a. tt)
  kind_plan e i n k last x y c kind.R16 = one_plan n k last x y (request_at Read c 16) (block_in c.last.at.word) tt _ (λ a. tt)
  kind_plan e i n k last x y c kind.W = one_plan n k last x y (request_at Write c 1) (one_in c.last.at.word) tt _ (λ a. tt)
  kind_plan e i n k last x y c kind.W2 = one_plan n k last x y (request_at Write c 2) (pair_in c.last.at.word) tt _ (λ a. tt)
  kind_plan e i n k last x y c kind.W16 = one_plan n k last x y (request_at Write c 16) (block_in c.last.at.word) tt _ (λ a. tt)
  kind_plan e i n k last x y c kind.Wl = one_plan n k last x y (request_at Write c 1) (one_in c.last.at.word) tt _ (λ a. tt)
  kind_plan e i n k last x y c kind.Wr = one_plan n k last x y (request_at Write c 1) (one_in c.last.at.word) tt _ (λ a. tt)
  kind_plan e i n k last x y c kind.Rw = changing_plan e i n k last x y c Whole
  kind_plan e i n k last x y c kind.Rwl = changing_plan e i n k last x y c act.Left
  kind_plan e i n k last x y c kind.A = addressing_plan e i n k last x y c (is_absa e)
  kind_plan e i n k last x y c kind.T = transferring_plan e i n k last x y c (is_taken e (with_chain_tally g c))
  kind_plan e i n k last x y c kind.N = tt
  kind_plan e i n k last x y c kind.Call6 = one_plan n k last x y (request_at Call c 1) (one_in c.last.at.word) tt _ (λ a. tt)

  direct_plan : (e : Effect) (i : ℕ) (n k : ℕ) (last : Option AtFields) → (c : ChainEnd) (w : ℕ) (taken : Bool) → PlansOperation n k last (operate_direct e i g c w taken)
  direct_plan e i n k last c w true = tt
  direct_plan e i n k last c w false = tt

  operation_plan : (e : Effect) (i : ℕ) (n k : ℕ) (last : Option AtFields) → 1 ≤ n → 2 ≤ k → (c : ChainEnd) (direct : Option ℕ) → PlansOperation n k last (operate_on e i g c direct)
  operation_plan e i n k last x y c None = kind_plan e i n k last x y c (operand_of e)
  operation_plan e i n k last x y c (Some w) = direct_plan e i n k last c w (takes_direct e)

  operate_plan : (e : Effect) (i : ℕ) (n k : ℕ) (last : Option AtFields) → 1 ≤ n → 2 ≤ k → (c : ChainEnd) → PlansOperation n k last (operate e i g c)
  unfolding operate
  operate_plan e i n k last x y c = operation_plan e i n k last x y c c.last.direct

  -- ---- the step

  abbrev PlansStep : ℕ → ℕ → Option AtFields → Act Ending → Type 0
  PlansStep n k last m = Plan Any n k last m

  ended_plan : (e : Effect) (i w : ℕ) (c : ChainEnd) (n k : ℕ) (last : Option AtFields) (v : Result Performed Halt) → PlansStep n k last (either (end_completed g w c.last) (end_halted g (Some w) (Some c.last)) v)
  ended_plan e i w c n k last (Ok p) = tt
  ended_plan e i w c n k last (Err h) = tt

  operated_plan : (e : Effect) (i w : ℕ) (n k : ℕ) (last : Option AtFields) → 1 ≤ n → 2 ≤ k → (v : Result ChainEnd Halt) → PlansStep n k last (either (operate_and_end e i g w) (end_halted g (Some w) None) v)
  operated_plan e i w n k last x y (Ok c) =
      plan_then Any Any n k last (operate e i g c) _ (operate_plan e i n k last x y c) (λ m j at v done. ended_plan e i w c m j at v)
  operated_plan e i w n k last x y (Err h) = tt

  addressed_plan : (e : Effect) (i w : ℕ) (last : Option AtFields) → PlansStep 17 19 last (form_and_operate e i g w)
  addressed_plan e i w last =
      plan_then Left Any 17 19 last (chain indirect_words g (first_point g (inst_of w))) _ (chain_plan indirect_words 17 19 last (first_point g (inst_of w)) (omega arith) (omega arith)) (λ m j at v left. operated_plan e i w m j at left.0 left.1 v)

  no_address_plan : (e : Effect) (w : ℕ) (last : Option AtFields) → PlansStep 17 19 last (no_address e g w)
  no_address_plan effect.Mme w last = tt
  no_address_plan effect.Drl w last = tt
  no_address_plan _ w last = tt

  started_plan : (e : Effect) (i w : ℕ) (last : Option AtFields) (o : Operand) → PlansStep 17 19 last (execute_admitted e i g w o)
  started_plan e i w last kind.N = no_address_plan e w last
  started_plan e i w last _ = addressed_plan e i w last

  admitted_plan : (e : Effect) (i w : ℕ) (last : Option AtFields) (refused : Bool) → PlansStep 17 19 last (execute_unless_barred e i g w refused)
  admitted_plan e i w last true = tt
  admitted_plan e i w last false = started_plan e i w last (operand_of e)

  decoded_plan : (w : ℕ) (right : Bool) (last : Option AtFields) (row : Option (Effect × ℕ)) → PlansStep 17 19 last (execute_decoded g w right row)
  decoded_plan w right last None = tt
  decoded_plan w right last (Some row) =
      admitted_plan row.0 row.1 w last (is_privileged row.0 && not right)

  fetched_plan : (last : Option AtFields) (reply : Result Answer Fault) → PlansStep 17 19 last (execute_fetched g reply)
  fetched_plan last (Err f) = tt
  fetched_plan last (Ok a) = decoded_plan (slice_index a.words 0) _ last (decode (slice_index a.words 0))

  -- A step makes at most 18 references to new pages, and records at most 20 references.
  pub program_plan : PlansStep 18 20 None (program g)
  unfolding program
  program_plan =
      (one_in g.ppr.ic, tt, 17, 19, omega arith, omega arith, (λ reply. fetched_plan _ reply))
