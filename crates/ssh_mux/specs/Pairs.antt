-- Both sides of a run.
use Rattle.std.specs.Prelude.{◌&&◌, Bool, []}
use Rattle.ssh_channels.specs.Muxes.{is_within}
use Rattle.ssh_channels.specs.declared.config.MuxConfig.{MuxConfig}
use Rattle.ssh_mux.specs.declared.pair.Pair.{Pair}
use Rattle.ssh_mux.specs.declared.pair.PairConfig.{PairConfig}
use Rattle.ssh_mux.specs.declared.pair.PairSide.{PairSide}

-- all numbers are within their bounds
abbrev pub are_within : PairConfig → Bool
are_within config = is_within config.client.window config.client.largest && is_within config.server.window config.server.largest

-- a side that did nothing
abbrev pub new_side : MuxConfig → PairSide
new_side config = record {
  mux = record { side = record { window = config.window; most = config.largest; channels = [] }; made = [] };
  received = 0;
}

abbrev pub new_pair : PairConfig → Pair
new_pair config = record { client = new_side config.client; server = new_side config.server }
