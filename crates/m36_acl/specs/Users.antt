-- Users, and which users the terms of an access list match.
--
--     Person.Project.tag     Person and Project 1 to 32 characters of `A-Z a-z 0-9 _`, tag one
--                            character of `a-z`
--
-- A term has the form of a user, but each of its three components may be `*`.
use Rattle.std.specs.Prelude.{ℕ, ◌+◌, ◌*◌, Bool, false, ◌&&◌, ◌||◌, ◌==◌, if◌then◌else◌, List, []}
use Rattle.std.specs.Prelude.{◌∷◌, codes, Option, Some, None}
use Rattle.std.specs.List.{slice_split}
use Rattle.m36_text.specs.Texts.{is_text, is_small_letter, is_word_character, is_run_of}

-- ---- components

-- the three components of a user or a term
pub record Components : Type 0 where
  pub person : List ℕ
  pub project : List ℕ
  pub tag : List ℕ

-- the parts of a text that points separate
abbrev pub parts_of : List ℕ → List (List ℕ)
parts_of text = slice_split (λ c. c == 46) text

-- the three components, if there are exactly three parts
abbrev pub components_of_parts : List (List ℕ) → Option Components
components_of_parts (person ∷ project ∷ tag ∷ []) =
    Some (record { person = person; project = project; tag = tag })
components_of_parts _ = None

-- the components of a text
unfoldable pub components_of : List ℕ → Option Components
components_of text = components_of_parts (parts_of text)

-- ---- forms

-- whether a byte can be in a person or a project: A-Z a-z 0-9 _
abbrev pub is_component_character : ℕ → Bool
is_component_character c = is_word_character c

-- the most characters of a person or a project
abbrev pub component_limit : ℕ
component_limit = 32

-- whether this can be a person or a project
abbrev pub is_component : List ℕ → Bool
is_component text = is_run_of is_component_character component_limit text

-- whether a byte can be a tag: a-z
abbrev pub is_tag_character : ℕ → Bool
is_tag_character c = is_small_letter c

-- whether this can be a tag: one small letter
abbrev pub is_tag : List ℕ → Bool
is_tag text = is_run_of is_tag_character 1 text

-- whether a component of a term is `*`
abbrev pub is_wildcard : List ℕ → Bool
is_wildcard text = is_text (codes "*") text

-- whether components have the form of those of a user
abbrev pub are_of_user : Components → Bool
are_of_user u = is_component u.person && is_component u.project && is_tag u.tag

-- whether a text has three components, and they have the form of those of a user
abbrev pub have_form_of_user : Option Components → Bool
have_form_of_user None = false
have_form_of_user (Some u) = are_of_user u

-- the most characters of a user or a term: two components, two points and a tag
abbrev pub user_limit : ℕ
user_limit = 2 * component_limit + 3

-- whether a text is a user
unfoldable pub is_user : List ℕ → Bool
is_user text = have_form_of_user (components_of text)

-- whether this can be a person or a project in a term, where it may be `*`
abbrev pub may_be_component : List ℕ → Bool
may_be_component text = is_wildcard text || is_component text

-- whether this can be a tag in a term, where it may be `*`
abbrev pub may_be_tag : List ℕ → Bool
may_be_tag text = is_wildcard text || is_tag text

-- whether components have the form of those of a term
abbrev pub are_of_term : Components → Bool
are_of_term t = may_be_component t.person && may_be_component t.project && may_be_tag t.tag

-- whether a text has three components, and they have the form of those of a term
abbrev pub have_form_of_term : Option Components → Bool
have_form_of_term None = false
have_form_of_term (Some t) = are_of_term t

-- whether a text is a term
unfoldable pub is_term : List ℕ → Bool
is_term text = have_form_of_term (components_of text)

-- the user with this text, if it is one; its model is the text
abbrev pub user_of : List ℕ → Option (List ℕ)
user_of text = if is_user text then Some text else None

-- ---- matching

-- whether a component of a term is `*` or equal to that of the user (`given`)
abbrev pub admits : List ℕ → List ℕ → Bool
admits component given = is_wildcard component || is_text component given

-- whether each component of a term admits that of a user
abbrev pub all_admit : Option Components → Option Components → Bool
all_admit (Some t) (Some u) =
    admits t.person u.person && admits t.project u.project && admits t.tag u.tag
all_admit _ _ = false

-- A term matches a user if each of its components is `*` or equal to that of the user.
unfoldable pub matches : List ℕ → List ℕ → Bool
matches term user = all_admit (components_of term) (components_of user)
