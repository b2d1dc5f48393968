mod Copying
