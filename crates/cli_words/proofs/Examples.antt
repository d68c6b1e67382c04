-- Command lines read by the definitions alone.
use Rattle.std.proofs.Common.{◌≡◌, [], ◌∷◌, Some, None, codes, refl}
use Rattle.std.specs.Fmt.{digits}
use Rattle.cli_words.specs.declared.command.Command.TheVariants as command
use Rattle.cli_words.specs.declared.client_words.PeerWords.TheVariants as peer
use Rattle.cli_words.specs.Words.{parted, kind_of, divided, value_of}
use Rattle.cli_words.specs.Values.{number_of, stopped_bytes, net_id_of, address_port, address_of, file_of, text_of}
use Rattle.cli_words.specs.Forms.{form_of, options_of, are_among}
use Rattle.cli_words.specs.Commands.{file_in, number_in, two_texts, texts_in, three_files, three_files_in, number_at, net_at, address_at}
use Rattle.cli_words.specs.Commands.{set_in, info_in, keep_in, load_in, selftest_in, serve_in, server_of}
use Rattle.cli_words.specs.Commands.{port_of, peer_of, client_of, client_alone, command_in, command_of}

-- selftest -- -s
behind_two_dashes : command_of (codes "selftest" ∷ codes "--" ∷ codes "-s" ∷ []) ≡ Some (command.Selftest (codes "-s"))
unfolding command_of form_of divided kind_of are_among options_of command_in selftest_in file_in file_of
behind_two_dashes = refl

-- selftest -s
no_such_option : command_of (codes "selftest" ∷ codes "-s" ∷ []) ≡ None
unfolding command_of form_of divided kind_of parted
no_such_option = refl

-- serve p --listen=127.0.0.1:48898 --events 1000
served : command_of (codes "serve" ∷ codes "p" ∷ codes "--listen=127.0.0.1:48898" ∷ codes "--events" ∷ codes "1000" ∷ [])
    ≡ Some (command.Serve (codes "p") (codes "127.0.0.1:48898") 1000)
unfolding command_of form_of divided kind_of parted are_among options_of value_of command_in serve_in file_in file_of server_of number_at address_at
    address_of address_port stopped_bytes number_of digits
served = refl

-- serve p --listen localhost:0 --events 1
no_port_0 : command_of (codes "serve" ∷ codes "p" ∷ codes "--listen" ∷ codes "localhost:0" ∷ codes "--events" ∷ codes "1" ∷ []) ≡ None
unfolding command_of form_of divided kind_of parted are_among options_of value_of command_in serve_in file_in file_of server_of number_at address_at
    address_of address_port stopped_bytes number_of digits
no_port_0 = refl

-- load 007, load 100000
superfluous_zeros : command_of (codes "load" ∷ codes "007" ∷ []) ≡ None
unfolding command_of form_of divided kind_of are_among options_of command_in load_in number_in number_of digits
superfluous_zeros = refl

most_loaded : command_of (codes "load" ∷ codes "100000" ∷ []) ≡ Some (command.Load 100000)
unfolding command_of form_of divided kind_of are_among options_of command_in load_in number_in number_of digits
most_loaded = refl

-- keep p s f, keep p s --store f
kept : command_of (codes "keep" ∷ codes "p" ∷ codes "s" ∷ codes "f" ∷ []) ≡ Some (command.Keep (codes "p") (codes "s") (codes "f"))
unfolding command_of form_of divided kind_of are_among options_of command_in keep_in three_files_in three_files file_of
kept = refl

no_store_option : command_of (codes "keep" ∷ codes "p" ∷ codes "s" ∷ codes "--store" ∷ codes "f" ∷ []) ≡ None
unfolding command_of form_of divided kind_of parted are_among options_of
no_store_option = refl

-- record N --store f --store=f
twice : command_of (codes "record" ∷ codes "N" ∷ codes "--store" ∷ codes "f" ∷ codes "--store=f" ∷ []) ≡ None
unfolding command_of form_of divided kind_of parted are_among options_of value_of
twice = refl

-- record N --store -f
no_value : command_of (codes "record" ∷ codes "N" ∷ codes "--store" ∷ codes "-f" ∷ []) ≡ None
unfolding command_of form_of divided kind_of parted
no_value = refl

-- set N --local p --me 1.2.3.4.5.6 -- -7
negative_value : command_of (codes "set" ∷ codes "N" ∷ codes "--local" ∷ codes "p" ∷ codes "--me" ∷ codes "1.2.3.4.5.6" ∷ codes "--" ∷ codes "-7" ∷ [])
    ≡ Some (command.Set (codes "N") (codes "-7") (record { me = record { bytes = 1 ∷ 2 ∷ 3 ∷ 4 ∷ 5 ∷ 6 ∷ [] }; port = 851; peer = peer.Local (codes "p") }))
unfolding command_of form_of divided kind_of parted are_among options_of value_of command_in set_in texts_in two_texts text_of client_of net_at
    net_id_of port_of peer_of file_of stopped_bytes number_of digits
negative_value = refl

-- info --me 1.2.3.4.5.6 --to localhost:1 --local p
mixture : command_of (codes "info" ∷ codes "--me" ∷ codes "1.2.3.4.5.6" ∷ codes "--to" ∷ codes "localhost:1" ∷ codes "--local" ∷ codes "p" ∷ []) ≡ None
unfolding command_of form_of divided kind_of parted are_among options_of value_of command_in info_in client_alone client_of net_at net_id_of port_of
    peer_of stopped_bytes number_of digits
mixture = refl
