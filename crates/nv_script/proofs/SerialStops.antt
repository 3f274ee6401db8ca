-- Worked rows with stops as texts: what the serial player writes of whole scripts.
use Rattle.std.proofs.Common.{◌≡◌, ◌++◌, [], ◌∷◌, codes, refl}
use Rattle.std.specs.Fmt.{digits}
use Rattle.nv_script.proofs.SerialTexts.{script}

a_stop_empties_the_deferred_list : script
    (codes "format blocks=16 cpus=2 block=4 page=4 inodes=8 snaps=4 actors=3"
    ∷ codes "do 0 create 0.1 a 420"
    ∷ codes "do 0 write 1.1 0 aaaa"
    ∷ codes "do 0 snap"
    ∷ codes "do 0 write 1.1 0 bbbb"
    ∷ codes "do 0 drop 1"
    ∷ codes "stop"
    ∷ codes "space"
    ∷ codes "do 0 drain 9"
    ∷ codes "audit" ∷ [])
    ≡ codes "formatted\n"
    ++ codes "done 1.1\n"
    ++ codes "done 4\n"
    ++ codes "done 1\n"
    ++ codes "done 4\n"
    ++ codes "done\n"
    ++ codes "stopped\n"
    ++ codes "free 13 chain 2 data 1 pending 0 hand 0\n"
    ++ codes "done 0\n"
    ++ codes "audit ok\n"
unfolding digits
a_stop_empties_the_deferred_list = refl

a_stop_erases_a_gone_inode : script
    (codes "format blocks=16 cpus=2 block=4 page=4 inodes=8 snaps=4 actors=3"
    ∷ codes "do 0 create 0.1 a 420"
    ∷ codes "do 0 snap"
    ∷ codes "do 0 unlink 0.1 a"
    ∷ codes "do 0 create 0.1 b 420"
    ∷ codes "do 0 drop 1"
    ∷ codes "space"
    ∷ codes "stop"
    ∷ codes "space"
    ∷ codes "do 0 create 0.1 c 420" ∷ [])
    ≡ codes "formatted\n"
    ++ codes "done 1.1\n"
    ++ codes "done 1\n"
    ++ codes "done\n"
    ++ codes "done 2.1\n"
    ++ codes "done\n"
    ++ codes "free 13 chain 3 data 0 pending 0 hand 0\n"
    ++ codes "stopped\n"
    ++ codes "free 14 chain 2 data 0 pending 0 hand 0\n"
    ++ codes "done 1.2\n"
unfolding digits
a_stop_erases_a_gone_inode = refl
