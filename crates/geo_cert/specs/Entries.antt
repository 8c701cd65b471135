-- What the kept entries of a grid stand for, and what its rows read so far stand for.
use Rattle.geo_cert.specs.declared.grid_lists.GridEntry.{GridEntry}
use Rattle.geo_cert.specs.declared.grid_lists.GridEntry.TheVariants.{One, Pair}
use Rattle.serde_json.specs.View.{items_view}
use Rattle.geo_cert.specs.declared.shapes.GridRows.{GridRows as Rows}
use Rattle.geo_cert.specs.declared.shapes.GridRows.TheVariants as rows
use Rattle.geo_cert.specs.Reading.{GridRows, one_row, two_rows}
use Rattle.geo_cert.specs.Grids.{Grid, one, two}

abbrev pub grid_of_entry : GridEntry → Grid
grid_of_entry (One p xs) = one p xs.items
grid_of_entry (Pair p q xs ys) = two p q xs.items ys.items

abbrev pub rows_shown : Rows → GridRows
rows_shown (rows.One p xs) = one_row p (items_view xs.now)
rows_shown (rows.Pair p q xs ys) = two_rows p q (items_view xs.now) (items_view ys.now)
