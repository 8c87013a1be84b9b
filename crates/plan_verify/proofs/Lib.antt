mod Below
mod Certified
mod Never
mod Shapes
mod Verified
mod Walks
