-- One node of a plan after another makes the triples of the elements that are needed.
use Rattle.std.proofs.Common.{◌≡◌, ◌∙◌, sym, ap, subst, inl, inr, ℕ, ◌+◌, ◌<◌, ◌≤◌, Bool, List, length, get_or, map, set, ℤ, unsigned_abs, arith}
use Rattle.std.proofs.lemmas.Bool.{cases_eq}
use Rattle.std.proofs.lemmas.List.{get_or-map, get_or-set_same, get_or-set_other, length-map, ext_get_or}
use Rattle.geo_triple.specs.declared.Triple.{Triple}
use Rattle.geo_triple.specs.Triple.{zero_triple}
use Rattle.geo_sketch.specs.declared.elements.Element.{Element}
use Rattle.geo_grid.specs.declared.posing.node.Node.{Node}
use Rattle.geo_grid.specs.Codes.{node_of, IsPlan}
use Rattle.geo_grid.specs.Nodes.{node_size, node_triple, triple_there, IsInside}
use Rattle.geo_grid.specs.Orders.{order_of}
use Rattle.geo_grid.specs.Plans.{Planned}
use Rattle.geo_grid.specs.Works.{AreLow, planned_triple, triples_of}
use Rattle.geo_grid.proofs.PlanLaws.{no_element, node_count, step_inside, step_made, step_small}

module _ {p : Planned} {kept : List Element} {nodes : List Node} {starts : List ℕ} {short : Bool} (plan : IsPlan p kept nodes starts short) (xs : List ℤ) (count : length xs ≡ length p.axes) where
  abbrev order : List Element
  order = order_of p

  -- the first so many triples are done
  abbrev pub AreDone : List Triple → ℕ → Type 0
  AreDone ts i = (k : ℕ) → k < i → triple_there ts k ≡ triple_there (triples_of p xs) k

  module _ (ts : List Triple) (i : ℕ) (node : Node) (here : node ≡ get_or nodes i node) (within : i < length nodes) (done : AreDone ts i) where
    in_order : i < length order
    in_order = omega (arith, within, node_count plan)

    node_is : node ≡ node_of p.axes order (get_or order i no_element)
    node_is = here ∙ ap (λ ns. get_or ns i node) plan.nodes_are ∙ get_or-map (node_of p.axes order) order i no_element node in_order

    pub run_inside : length ts ≡ length order → IsInside node (length ts)
    run_inside room = subst (λ (n : Node). IsInside n (length ts)) (sym node_is) (step_inside p plan.drawn xs count ts i no_element in_order done (omega (arith, room, in_order)))

    pub run_small : (limit : ℕ) → AreLow limit p (map unsigned_abs xs) → node_size node ts xs ≤ limit
    run_small limit low = subst (λ (n : Node). node_size n ts xs ≤ limit) (sym node_is) (step_small p plan.drawn xs count ts i no_element in_order done limit low)

    pub run_made : node_triple node ts xs ≡ triple_there (triples_of p xs) i
    run_made = ap (λ n. node_triple n ts xs) node_is ∙ step_made p plan.drawn xs count ts i no_element in_order done

  -- one more
  pub done_more : (ts : List Triple) (i : ℕ) (t : Triple) → i < length ts → t ≡ triple_there (triples_of p xs) i → AreDone ts i → AreDone (set ts i t) (i + 1)
  done_more ts i t within made done k less =
      elim (cases_eq k i) [
        | inl e ↦ rw e (get_or-set_same ts i t zero_triple within ∙ made)
        | inr ne ↦ get_or-set_other ts i k t zero_triple ne ∙ done k (omega (arith, ne, less))
      ]

  -- all are
  pub all_done : (ts : List Triple) (i : ℕ) → length ts ≡ length order → length order ≤ i → AreDone ts i → ts ≡ triples_of p xs
  all_done ts i room past done =
      ext_get_or zero_triple ts (triples_of p xs) (room ∙ sym (length-map order (λ (e : Element). planned_triple p xs e.number)))
      (λ k within. done k (omega (arith, within, room, past)))
