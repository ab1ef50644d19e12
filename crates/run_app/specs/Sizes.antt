-- A line spells no more delegations than it has bytes.
use Rattle.std.specs.Prelude.{◌≡◌, ℕ, ◌+◌, ◌≤◌, List, length, Ok}
use Rattle.base_bech32.specs.declared.form.Form.{Form}
use Rattle.base_messages.specs.declared.genesis.Genesis.{Genesis}
use Rattle.line_json.specs.Genesis.{genesis_of}

abbrev pub DelegationsAreFew : Form → Type 0
DelegationsAreFew form = (line : List ℕ) (g : Genesis) → genesis_of form line ≡ Ok g → length g.delegations ≤ length line + 1
