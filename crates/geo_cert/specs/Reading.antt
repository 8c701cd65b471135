-- What the rows of a certificate read as.
use Rattle.std.specs.Prelude.{ℕ, ℤ, List, Option, Some, None, option_and_then, option_map}
use Rattle.geo_sketch.specs.declared.elements.Kind.{Kind}
use Rattle.geo_sketch.specs.declared.elements.Def.{Def}
use Rattle.geo_sketch.specs.declared.elements.Def.TheVariants.{Free, Fixed, Cut, Blend, Cross}
use Rattle.geo_sketch.specs.declared.statements.Statement.{Statement}
use Rattle.geo_sketch.specs.declared.statements.Statement.TheVariants as statement
use Rattle.serde_json.specs.Data.{Data, Items, no_items, item}
use Rattle.serde_json.specs.Find.{as_array, as_str}
use Rattle.geo_cert.specs.declared.words.DefWord.{DefWord}
use Rattle.geo_cert.specs.declared.words.DefWord.TheVariants as def
use Rattle.geo_cert.specs.declared.words.ClaimWord.{ClaimWord}
use Rattle.geo_cert.specs.declared.words.ClaimWord.TheVariants as claim
use Rattle.geo_cert.specs.declared.degree_lists.DegreeEntry.{DegreeEntry}
use Rattle.geo_cert.specs.declared.degree_lists.DegreeEntry.TheVariants as degree
use Rattle.geo_cert.specs.Grids.{Grid, one, two}
use Rattle.geo_cert.specs.Rows.{count, ended, next, then_next, whole, wholes}
use Rattle.geo_cert.specs.Words.{claim_word_of, def_word_of, kind_word_of}

-- ---- elements: a number, a kind, and a definition
abbrev pub def_in : DefWord → Items → Option Def
def_in def.Free ds = ended Free ds
def_in def.Fixed ds = then_next whole ds (λ a r. then_next whole r (λ b t. then_next whole t (λ c u. ended (Fixed a b c) u)))
def_in def.Cut ds = then_next count ds (λ k r. ended (Cut k) r)
def_in def.Blend ds = then_next count ds (λ k r. then_next count r (λ m t. ended (Blend k m) t))
def_in def.Cross ds = then_next count ds (λ k r. then_next count r (λ m t. ended (Cross k m) t))

-- the word for the definition, and the definition
abbrev pub said_def_in : Items → Option Def
said_def_in ds = then_next as_str ds (λ w r. option_and_then (λ what. def_in what r) (def_word_of w))

abbrev pub element_in : Items → Option (ℕ × Kind × Def)
element_in ds =
    then_next count ds (λ n r. then_next as_str r (λ w t. option_and_then (λ kind. option_map (λ d. (n, kind, d)) (said_def_in t)) (kind_word_of w)))

-- ---- the claim
abbrev pub statement_in : ClaimWord → Items → Option Statement
statement_in claim.Null ds = then_next count ds (λ n r. ended (statement.Null n) r)
statement_in claim.Same ds = then_next count ds (λ n r. then_next count r (λ m t. ended (statement.Same n m) t))
statement_in claim.On ds = then_next count ds (λ n r. then_next count r (λ m t. ended (statement.On n m) t))
statement_in claim.Triple ds = then_next count ds (λ n r. then_next count r (λ m t. then_next count t (λ k u. ended (statement.Triple n m k) u)))

abbrev pub claim_in : Items → Option Statement
claim_in ds = then_next as_str ds (λ w r. option_and_then (λ what. statement_in what r) (claim_word_of w))

-- ---- degrees: a parameter or two, and a whole number. Where only one value stands behind
-- the parameter it is that number, else it is the second parameter
abbrev pub pair_degree_in : ℕ → Items → Option DegreeEntry
pair_degree_in p ds = then_next count ds (λ q r. then_next whole r (λ d t. ended (degree.Pair p q d) t))

abbrev pub degree_behind : ℕ → Items → ℤ → Items → Option DegreeEntry
degree_behind p ds d no_items = Some (degree.One p d)
degree_behind p ds d (item e rest) = pair_degree_in p ds

abbrev pub degree_in : Items → Option DegreeEntry
degree_in ds = then_next count ds (λ p r. then_next whole r (λ d t. degree_behind p r d t))

-- ---- values
abbrev pub value_in : Items → Option (ℕ × ℤ)
value_in ds = then_next count ds (λ p r. then_next whole r (λ v t. ended (p, v) t))

-- ---- the grid: a parameter and its values, or two and the values of each
pub data GridRows : Type 0 where
  one_row : ℕ → Items → GridRows
  two_rows : ℕ → ℕ → Items → Items → GridRows

abbrev pub pair_rows_in : ℕ → Items → Option GridRows
pair_rows_in p ds = then_next count ds (λ q r. then_next as_array r (λ xs t. then_next as_array t (λ ys u. ended (two_rows p q xs ys) u)))

abbrev pub grid_behind : ℕ → Items → Option (Items × Items) → Option GridRows
grid_behind p ds None = pair_rows_in p ds
grid_behind p ds (Some r) = ended (one_row p r.0) r.1

abbrev pub grid_of_rows : GridRows → Option Grid
grid_of_rows (one_row p xs) = option_map (one p) (wholes xs)
grid_of_rows (two_rows p q xs ys) = option_and_then (λ vs. option_map (two p q vs) (wholes ys)) (wholes xs)

abbrev pub grid_rows_in : Items → Option GridRows
grid_rows_in ds = then_next count ds (λ p r. grid_behind p r (next as_array r))

abbrev pub grid_in : Items → Option Grid
grid_in ds = option_and_then grid_of_rows (grid_rows_in ds)
