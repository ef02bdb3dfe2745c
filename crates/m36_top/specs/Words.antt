-- The words of the command line.
--
--     bare FILE [--steps N] [--unaudited]
--     audit FILE
--     audit [--user USER]
--     run [--steps N] [--unaudited] [--user USER]
--     trace [--steps N] [--unaudited] [--user USER]
--     access USER
--     procs FILE [--unaudited]
--     print NAME
--     alm NAME
--     bind NAME
--     debug
--     debug FILE
--     make SEED
--
-- The first word is the command. The operand and options follow it in any order, each option at
-- most once. After `--`, which may be given once, each word is an operand. `--steps N` may be
-- written `--steps=N`, and `--user USER` `--user=USER`; if not, the value is the next word,
-- whatever it is. No other list of words is a command.
--
--     FILE, NAME   1 to 32 of `A-Z a-z 0-9 _ .`, not beginning with `.`; of `alm` and `bind` at
--                  most 27, since they read NAME.alm and NAME.bind
--     N            1 to 8 decimal digits, at most 10,000,000; without `--steps` 100,000
--     SEED         1 to 18 decimal digits
--     USER         Person.Project.tag: two times 1 to 32 of `A-Z a-z 0-9 _`, and one of `a-z`
use Rattle.std.specs.Prelude.{ℕ, ◌-◌, Bool, true, false, not, ◌&&◌, nat_le, List, [], ◌∷◌}
use Rattle.std.specs.Prelude.{length, take, drop, codes, Option, Some, None, unwrap_or}
use Rattle.std.specs.Prelude.{if◌then◌else◌}
use Rattle.std.specs.Option.{is_none, option_map, option_and_then}
use Rattle.m36_text.specs.FileNames.{bindfile_suffix, source_of_object, bindfile_of_object}
use Rattle.m36_text.specs.Texts.{name_limit, is_text}
use Rattle.m36_text.specs.Numbers.{short_decimal_in}
use Rattle.cmd_folder.specs.declared.command.FolderRun.{FolderRun}
use Rattle.cmd_folder.specs.declared.command.FolderCommand.TheVariants as folder
use Rattle.m36_dir.specs.BootLine.{name_of}
use Rattle.m36_acl.specs.Users.{user_of}
use Rattle.m36_top.specs.declared.names.Operand.{Operand}
use Rattle.m36_top.specs.declared.words.Given.{Given}
use Rattle.m36_top.specs.declared.words.Expects.{Expects}
use Rattle.m36_top.specs.declared.words.Expects.TheVariants as expects
use Rattle.m36_top.specs.declared.command.Command.{Command}
use Rattle.m36_top.specs.declared.command.Command.TheVariants.{Bare, Audit, Booted, Procs}
use Rattle.m36_top.specs.declared.command.Command.TheVariants.{Access, Print, Alm, Bind}
use Rattle.m36_top.specs.declared.command.Command.TheVariants.{DebugFolder, DebugImage, Make}

-- the operand that a word can be: the name of a file, a user, or both; None if it is neither. A
-- seed has the form of a name of a file.
abbrev pub operand_or_none : Option (List ℕ) → Option (List ℕ) → Option Operand
operand_or_none file user =
    if is_none file && is_none user then None else Some (record { file = file; user = user })

-- a word as an operand; None if it is neither the name of a file nor a user
abbrev pub operand_of : List ℕ → Option Operand
operand_of word = operand_or_none (name_of word) (user_of word)

-- the greatest value of `--steps`
abbrev pub steps_limit : ℕ
steps_limit = 10000000

-- the limit of steps without `--steps`
abbrev pub default_steps : ℕ
default_steps = 100000

-- the value of `--steps`: one to eight decimal digits, at most `steps_limit`; None for others
abbrev pub steps_of : List ℕ → Option ℕ
steps_of text = short_decimal_in 8 0 steps_limit text

-- the new value of something that may be given once; None if it was given before
abbrev pub given_once : {A : Type 0} → Option A → Option A → Option A
given_once None new = new
given_once (Some old) new = None

-- `with_operand`, `with_steps`, `with_user` and `with_unaudited` add an operand or an option to
-- what was read so far. None means that it was given before, or that the word does not have its
-- form; then the list of words is no command.
abbrev pub with_operand : Given → List ℕ → Option Given
with_operand g word =
    option_map (λ o. record g { operand = Some o }) (given_once g.operand (operand_of word))

abbrev pub with_steps : Given → List ℕ → Option Given
with_steps g text =
    option_map (λ n. record g { steps = Some n }) (given_once g.steps (steps_of text))

abbrev pub with_user : Given → List ℕ → Option Given
with_user g text =
    option_map (λ user. record g { user = Some user }) (given_once g.user (user_of text))

abbrev pub with_unaudited : Given → Option Given
with_unaudited g = if g.unaudited then None else Some (record g { unaudited = true })

-- the operand and options so far, with what the next word is read as
abbrev pub expecting : Given → Expects → Given
expecting g e = record g { expects = e }

-- the beginning of a word with the option `--steps` and its value
abbrev pub steps_prefix : List ℕ
steps_prefix = codes "--steps="

-- the beginning of a word with the option `--user` and its value
abbrev pub user_prefix : List ℕ
user_prefix = codes "--user="

-- Does a word begin with a text?
abbrev pub begins_with : List ℕ → List ℕ → Bool
begins_with text word = nat_le (length text) (length word) && is_text text (take (length text) word)

-- Is a word `--steps=` and a value?
abbrev pub is_steps_with_value : List ℕ → Bool
is_steps_with_value word = begins_with steps_prefix word

-- Is a word `--user=` and a value?
abbrev pub is_user_with_value : List ℕ → Bool
is_user_with_value word = begins_with user_prefix word

-- adds one word where an option or the operand may follow
abbrev pub with_option_or_operand : Given → List ℕ → Option Given
with_option_or_operand g word =
    if is_text (codes "--") word then Some (expecting g expects.Operand)
    else if is_text (codes "--steps") word then Some (expecting g expects.Steps)
    else if is_text (codes "--user") word then Some (expecting g expects.User)
    else if is_text (codes "--unaudited") word then with_unaudited g
    else if is_steps_with_value word then with_steps g (drop (length steps_prefix) word)
    else if is_user_with_value word then with_user g (drop (length user_prefix) word)
    else with_operand g word

-- adds one word, which is read as what is expected
abbrev pub with_expected_word : Expects → Given → List ℕ → Option Given
with_expected_word expects.Any g word = with_option_or_operand g word
with_expected_word expects.Steps g word = with_steps (expecting g expects.Any) word
with_expected_word expects.User g word = with_user (expecting g expects.Any) word
with_expected_word expects.Operand g word = with_operand g word

-- adds one word to the operand and options so far; None if with this word the list is no command
unfoldable pub with_word : Given → List ℕ → Option Given
with_word g word = with_expected_word g.expects g word

-- the operand and options at the end of the words; None if the value of an option is missing
abbrev pub complete_given : Expects → Given → Option Given
complete_given expects.Any g = Some g
complete_given expects.Steps g = None
complete_given expects.User g = None
complete_given expects.Operand g = Some g

-- the operand and options after all these words; None if the list is no command
unfoldable pub with_words : Given → List (List ℕ) → Option Given
with_words g [] = complete_given g.expects g
with_words g (word ∷ words) = option_and_then (λ h. with_words h words) (with_word g word)

-- before the first word: no operand and no option
abbrev pub nothing_given : Given
nothing_given =
    record {
      operand = None;
      user = None;
      steps = None;
      expects = expects.Any;
      unaudited = false;
    }

-- the operand as the name of a file; None if there is no operand or it is no such name
abbrev pub file_given : Given → Option (List ℕ)
file_given g = option_and_then (λ (o : Operand). o.file) g.operand

-- the operand as a user; None if there is no operand or it is no user
abbrev pub user_given : Given → Option (List ℕ)
user_given g = option_and_then (λ (o : Operand). o.user) g.operand

-- the limit of steps: the value of `--steps`, or the default
abbrev pub steps_given : Given → ℕ
steps_given g = unwrap_or g.steps default_steps

-- Each command word has a definition of its name: the command that it makes of its operand and
-- options, or None if it does not take them. All options go with `run` and `trace`, all but
-- `--user` with `bare`, `--user` with `audit` of the folder, `--unaudited` with `procs`, and none
-- with the others.

-- `bare FILE`
abbrev pub bare : Given → Option Command
bare g =
    if is_none g.user
    then option_map
    (λ file. Bare file (record { steps = steps_given g; unaudited = g.unaudited }))
    (file_given g) else None

-- Is neither `--steps` nor `--unaudited` given?
abbrev pub has_no_run_option : Given → Bool
has_no_run_option g = is_none g.steps && not g.unaudited

-- Is no option given?
abbrev pub has_no_option : Given → Bool
has_no_option g = has_no_run_option g && is_none g.user

-- `audit` of a file, which takes no user, or of the folder; by its operand and user
abbrev pub audit_command : Option Operand → Option (List ℕ) → Option Command
audit_command None user = Some (Booted folder.Audit user)
audit_command (Some o) None = option_map Audit o.file
audit_command (Some o) (Some user) = None

-- `audit` and `audit FILE`
abbrev pub audit : Given → Option Command
audit g = if has_no_run_option g then audit_command g.operand g.user else None

-- the limit of steps, and whether the audit may fail, of `run` and `trace`
abbrev pub folder_run : Given → FolderRun
folder_run g = record { steps = steps_given g; unaudited = g.unaudited }

-- `run`
abbrev pub run : Given → Option Command
run g = if is_none g.operand then Some (Booted (folder.Run (folder_run g)) g.user) else None

-- `trace`
abbrev pub trace : Given → Option Command
trace g = if is_none g.operand then Some (Booted (folder.Trace (folder_run g)) g.user) else None

-- `procs FILE`
abbrev pub procs : Given → Option Command
procs g =
    if is_none g.steps && is_none g.user
    then option_map (λ file. Procs file g.unaudited) (file_given g) else None

-- `access USER`
abbrev pub access : Given → Option Command
access g = if has_no_option g then option_map Access (user_given g) else None

-- `print NAME`
abbrev pub print : Given → Option Command
print g = if has_no_option g then option_map (λ name. Print name) (file_given g) else None

-- the most characters of the name of an object of `alm` or `bind`: with the suffix `.bind`, or the
-- shorter `.alm`, it is a name of at most 32
abbrev pub made_name_limit : ℕ
made_name_limit = name_limit - length bindfile_suffix

-- May a suffix be added to this name?
abbrev pub has_room_for_suffix : List ℕ → Bool
has_room_for_suffix name = nat_le (length name) made_name_limit

-- the command `alm` for an object of this name; None if the name is too long for a suffix
abbrev pub alm_command : List ℕ → Option Command
alm_command name =
    if has_room_for_suffix name
    then Some (Alm (record { source = source_of_object name; object = name })) else None

-- `alm NAME`
abbrev pub alm : Given → Option Command
alm g = if has_no_option g then option_and_then alm_command (file_given g) else None

-- the command `bind` for an object of this name; None if the name is too long for `.bind`
abbrev pub bind_command : List ℕ → Option Command
bind_command name =
    if has_room_for_suffix name
    then Some (Bind (record { bindfile = bindfile_of_object name; object = name })) else None

-- `bind NAME`
abbrev pub bind : Given → Option Command
bind g = if has_no_option g then option_and_then bind_command (file_given g) else None

-- `debug` of a file, or of the folder, by its operand
abbrev pub debug_command : Option Operand → Option Command
debug_command None = Some DebugFolder
debug_command (Some o) = option_map DebugImage o.file

-- `debug` and `debug FILE`
abbrev pub debug : Given → Option Command
debug g = if has_no_option g then debug_command g.operand else None

-- a seed: one to 18 decimal digits; None for other texts
abbrev pub seed_of : List ℕ → Option ℕ
seed_of text = short_decimal_in 18 0 999999999999999999 text

-- `make SEED`
abbrev pub make : Given → Option Command
make g =
    if has_no_option g then option_map Make (option_and_then seed_of (file_given g)) else None

-- a command word, and the command that it makes of the operand and options
abbrev pub Entry : Type 0
Entry = List ℕ × (Given → Option Command)

-- the command words, each once
abbrev pub commands : List Entry
commands =
    (codes "bare", bare) ∷ (codes "audit", audit) ∷ (codes "run", run) ∷ (codes "trace", trace)
    ∷ (codes "procs", procs) ∷ (codes "access", access) ∷ (codes "print", print)
    ∷ (codes "alm", alm) ∷ (codes "bind", bind) ∷ (codes "debug", debug)
    ∷ (codes "make", make) ∷ []

-- the command by its word; None if no entry has the word
abbrev pub command_in : List Entry → List ℕ → Given → Option Command
command_in [] word g = None
command_in (entry ∷ entries) word g =
    if is_text entry.0 word then entry.1 g else command_in entries word g

-- the command that a list of words asks for; None if it is no command
unfoldable pub command_of : List (List ℕ) → Option Command
command_of [] = None
command_of (word ∷ words) =
    option_and_then (command_in commands word) (with_words nothing_given words)
