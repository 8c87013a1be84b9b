-- What is known of the system's files and streams: what they stand over, and how often their calls have failed.
use Rattle.std.specs.Prelude.{ℕ, List}
use Rattle.outside.specs.Faults.{faults_under}
use Rattle.outside.specs.declared.host_files.HostFiles.{HostFiles}
use Rattle.outside.specs.declared.host_streams.HostSource.{HostSource}
use Rattle.outside.specs.declared.host_streams.HostSink.{HostSink}

abbrev pub read_faults_of : {R : Type 0} → HostFiles R → List ℕ → ℕ
read_faults_of files name = faults_under name files.failed_reads.items

abbrev pub replace_faults_of : {R : Type 0} → HostFiles R → List ℕ → ℕ
replace_faults_of files name = faults_under name files.failed_replaces.items

abbrev pub reader_of : {R : Type 0} → HostSource R → R
reader_of source = source.reader

abbrev pub source_faults_of : {R : Type 0} → HostSource R → ℕ
source_faults_of source = source.faults

abbrev pub writer_of : {W : Type 0} → HostSink W → W
writer_of sink = sink.writer

abbrev pub sink_faults_of : {W : Type 0} → HostSink W → ℕ
sink_faults_of sink = sink.faults
